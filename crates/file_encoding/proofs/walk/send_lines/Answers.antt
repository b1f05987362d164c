use Rattle.std.proofs.Common.{◌<◌, ◌+◌, ap, arith, refl, subst, sym, ◌∙◌}
use Rattle.std.specs.List.{flat_map}
use Rattle.cube_core.specs.Order.{upto}
use Rattle.file_encoding.specs.Own.{line_of, own_residuals}
use Rattle.cube_core.specs.declared.order.Order.TheVariants.{Bi}
use Rattle.file_encoding.proofs.Sending.{Steps, stepped, upto_rest, none_yet, at_same}
use Rattle.file_encoding.proofs.Groups.{lines_alone}
use Rattle.file_encoding.proofs.walk.send_lines.Goals as goal
use Rattle.file_encoding.proofs.walk.send_lines.Goals.{In-loop-y}
use Rattle.file_encoding.proofs.walk.send_lines.Given.{Over}

step : (g : Over) (c : In-loop-y g) → Steps g.T.Taker.may g.T.Taker.takes c.args.taker.now c.loop-y.taker
    (own_residuals c.args.params.now c.args.cube.now c.args.predictor c.args.deal.now (Bi c.args.depth))
    (line_of c.args.params.now c.args.cube.now c.args.predictor c.args.deal.now c.args.depth c.loop-y.y)
    (flat_map (λ y. line_of c.args.params.now c.args.cube.now c.args.predictor c.args.deal.now c.args.depth y) (upto (c.loop-y.y + 1)))
step g c =
    let next : c.loop-y.y < c.args.cube.now.shape.rows = omega (arith, ap (λ s. s.rows) c.shape.ensures) in
    stepped g.met.T.Taker.laws c.loop-y.invariant.sent c.requires.may (upto_rest _ _ _ next) refl

pub send_line-requires-clause-may : goal.send_line-requires-clause-may
send_line-requires-clause-may g c = rw c.of-rows.ensures ((step g (goal.at.send_line-requires-clause-may g c).In-loop-y).fits)

pub returns-then-not-send_line : goal.returns-then-not-send_line
returns-then-not-send_line g c = (step g (goal.at.returns-then-not-send_line g c).In-loop-y).cut _ _ c.if-not-send_line.true (rw c.of-rows.ensures at c.send_line.ensures.sent)

pub loop-y-preserved : goal.loop-y-preserved
loop-y-preserved g c = record {
  at = (rw c.of-rows.ensures at c.send_line.ensures.at) c.if-not-send_line.false;
  same = c.send_line.ensures.same ∙ c.loop-y.invariant.same;
  sent = (step g (goal.at.loop-y-preserved g c).In-loop-y).more _ _ c.if-not-send_line.false (rw c.of-rows.ensures at c.send_line.ensures.sent);
}

pub loop-y-init : goal.loop-y-init
loop-y-init g c = record { at = at_same _ _ _ _ _ c.requires.at (omega arith); same = refl; sent = none_yet g.met.T.Taker.laws c.requires.may }

pub send_each_line-requires-clause-may : goal.send_each_line-requires-clause-may
send_each_line-requires-clause-may g c =
    subst (g.T.Taker.may c.args.taker.now) (lines_alone _ _ _ _ _ _ c.if-depth-eq1.true c.requires.own) c.requires.may

pub returns-then-depth-eq1 : goal.returns-then-depth-eq1
returns-then-depth-eq1 g c =
    subst (g.T.Taker.takes c.args.taker.now c.send_each_line.new.taker c.send_each_line.result)
    (sym (lines_alone _ _ _ _ _ _ c.if-depth-eq1.true c.requires.own)) c.send_each_line.ensures
