use Rattle.std.proofs.Common.{rules, ◌≡◌, ◌+◌, ◌-◌, ◌/◌, ℕ, List, refl, ap, take, drop, arith, ◌∙◌}
use Rattle.std.specs.List.{flat_map}
use Rattle.cube_core.specs.Order.{upto, group}
use Rattle.file_encoding.specs.Own.{own, row_of, line_of}
use Rattle.file_encoding.specs.Walks.{bands_of}
use Rattle.file_encoding.proofs.Sending.{Steps, none_yet, stepped, upto_rest, parted_put, bands_put}
use Rattle.file_encoding.proofs.Groups.{IsGroup, is_group}
use Rattle.std.proofs.lemmas.Grind.{common_steps}
use Rattle.file_encoding.proofs.walk.send_line.Goals as goal
use Rattle.file_encoding.proofs.walk.send_line.Goals.{After-count_own-count}
use Rattle.file_encoding.proofs.walk.send_line.Given.{Over}

module _ (g : Over) (c : After-count_own-count g) where
  abbrev run : ℕ → List ℕ
  run i = row_of c.args.params.now c.args.rows.now.image (own c.args.predictor c.args.deal.now (group c.args.rows.now.image.shape c.args.depth i)) c.args.rows.now.y

  there : IsGroup c.args.predictor c.args.deal.now c.args.rows.now.image.shape c.args.depth c.loop-i.i c.bands-total.result c.min-end.result c.loop-i.slot
      c.count_own-count.result c.loop-i.bands
  there =
      is_group _ _ _ _ _ _ _ _ _ _ _ c.requires.depth.0 (c.bands-total.ensures.value ∙ ap (λ s. s.bands) c.shape.ensures) c.loop-i-test.true
      c.loop-i.invariant.first c.min-end.ensures c.loop-i.invariant.slot c.count_own-count.ensures (c.loop-i.invariant.parted.same ∙ c.requires.own)

  step : Steps g.T.Taker.may g.T.Taker.takes c.args.taker.now c.loop-i.taker
      (line_of c.args.params.now c.args.rows.now.image c.args.predictor c.args.deal.now c.args.depth c.args.rows.now.y)
      (row_of c.args.params.now c.args.rows.now.image
      (bands_of (take (c.loop-i.slot + c.count_own-count.result - c.loop-i.slot) (drop c.loop-i.slot c.loop-i.bands))) c.args.rows.now.y)
      (flat_map run (upto (c.loop-i.i + 1)))
  unfolding line_of
  step =
      stepped g.met.T.Taker.laws c.loop-i.invariant.sent c.requires.may (upto_rest run _ _ there.in_order)
      (ap (λ zs. row_of c.args.params.now c.args.rows.now.image zs c.args.rows.now.y) there.there)

pub overflow_add-slot : goal.overflow_add-slot
overflow_add-slot g c = let h = there g c in omega arith

pub offset_bounds-bands-slot : goal.offset_bounds-bands-slot
offset_bounds-bands-slot g c = let h = there g c in omega arith

pub slice_bounds-send_row-end : goal.slice_bounds-send_row-end
slice_bounds-send_row-end g c = let h = (there g c).fits in search rules

pub send_row-requires-clause-may : goal.send_row-requires-clause-may
send_row-requires-clause-may g c = (step g (goal.at.send_row-requires-clause-may g c).After-count_own-count).fits

pub returns-then-not-send_row-clause-sent : goal.returns-then-not-send_row-clause-sent
returns-then-not-send_row-clause-sent g c =
    (step g (goal.at.returns-then-not-send_row-clause-sent g c).After-count_own-count).cut _ _ c.if-not-send_row.true c.send_row.ensures.sent

pub loop-i-preserved : goal.loop-i-preserved
loop-i-preserved g c =
    let d = (goal.at.loop-i-preserved g c).After-count_own-count in
    let told = c.send_row.ensures in
    let next = c.loop-i.slot + c.count_own-count.result in
    let parted = parted_put (next - c.loop-i.slot) next _ c.loop-i.invariant.parted (omega arith) (there g d).fits
    (told.at c.if-not-send_row.false) told.same in
    record { first = (there g d).next; slot = (there g d).more; parted = parted; sent = (step g d).more _ _ c.if-not-send_row.false told.sent }

pub returns-clause-sent : goal.returns-clause-sent
unfolding line_of
returns-clause-sent g c =
    let end : c.loop-i.i ≡ (c.bands-total.result + c.args.depth - 1) / c.args.depth = omega arith in
    rw (rw (c.bands-total.ensures.value, c.shape.ensures) at end) at c.loop-i.invariant.sent

pub loop-i-init : goal.loop-i-init
loop-i-init g c =
    let sent = none_yet g.met.T.Taker.laws c.requires.may in
    record { first = omega arith; slot = refl; parted = record { done = tt; left = c.requires.at; same = refl }; sent = sent }

pub returns-then-not-send_row-clause-same : goal.returns-then-not-send_row-clause-same
returns-then-not-send_row-clause-same g c = grind (arith, common_steps, bands_put)
