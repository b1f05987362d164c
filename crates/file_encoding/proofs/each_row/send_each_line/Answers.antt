use Rattle.std.proofs.Common.{◌<◌, ◌+◌, ◌∷◌, [], ℕ, List, ap, arith, refl, ◌∙◌}
use Rattle.std.specs.List.{flat_map}
use Rattle.cube_core.specs.Order.{upto}
use Rattle.file_encoding.specs.Own.{row_of}
use Rattle.file_encoding.specs.Walks.{bands_of}
use Rattle.file_encoding.proofs.Sending.{Steps, stepped, upto_rest, none_yet, at_same}
use Rattle.file_encoding.proofs.each_row.send_each_line.Goals as goal
use Rattle.file_encoding.proofs.each_row.send_each_line.Goals.{In-loop-y}
use Rattle.file_encoding.proofs.each_row.send_each_line.Given.{Over}

module _ (g : Over) (c : In-loop-y g) where
  abbrev line : List ℕ → ℕ → List ℕ
  line zs y = flat_map (λ z. row_of c.args.params.now c.args.cube.now (z ∷ []) y) zs

  step : Steps g.T.Taker.may g.T.Taker.takes c.args.taker.now c.loop-y.taker
      (flat_map (line (bands_of c.args.bands.now)) (upto c.args.cube.now.shape.rows))
      (line (bands_of c.loop-y.bands) c.loop-y.y) (flat_map (line (bands_of c.args.bands.now)) (upto (c.loop-y.y + 1)))
  step =
      let next : c.loop-y.y < c.args.cube.now.shape.rows = omega (arith, ap (λ s. s.rows) c.shape.ensures) in
      stepped g.met.T.Taker.laws c.loop-y.invariant.sent c.requires.may (upto_rest _ _ _ next) (ap (λ zs. line zs c.loop-y.y) c.loop-y.invariant.same)

pub send_each_row-requires-clause-may : goal.send_each_row-requires-clause-may
send_each_row-requires-clause-may g c = rw c.of-rows.ensures ((step g (goal.at.send_each_row-requires-clause-may g c).In-loop-y).fits)

pub returns-then-not-send_each_row : goal.returns-then-not-send_each_row
returns-then-not-send_each_row g c =
    (step g (goal.at.returns-then-not-send_each_row g c).In-loop-y).cut _ _ c.if-not-send_each_row.true (rw c.of-rows.ensures at c.send_each_row.ensures.sent)

pub loop-y-preserved : goal.loop-y-preserved
loop-y-preserved g c = record {
  at = (rw c.of-rows.ensures at c.send_each_row.ensures.at) c.if-not-send_each_row.false;
  same = c.send_each_row.ensures.same ∙ c.loop-y.invariant.same;
  sent = (step g (goal.at.loop-y-preserved g c).In-loop-y).more _ _ c.if-not-send_each_row.false (rw c.of-rows.ensures at c.send_each_row.ensures.sent);
}

pub loop-y-init : goal.loop-y-init
loop-y-init g c = record { at = at_same _ _ _ _ _ c.requires.at (omega arith); same = refl; sent = none_yet g.met.T.Taker.laws c.requires.may }
