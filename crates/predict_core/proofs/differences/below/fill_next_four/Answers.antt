use Rattle.std.proofs.Common.{◌+◌, arith, ◌∙◌}
use Rattle.predict_core.proofs.Quads.{lower_four}
use Rattle.predict_core.proofs.differences.below.fill_next_four.Goals as goal

pub returns : goal.returns
returns c = λ i l h.
    let s = c.args.settings.now in let a = c.fill_below.ensures i l h in let b = c.fill_below-2.ensures i l h in
    let d = c.fill_below-3.ensures i l h in let e = c.fill_below-4.ensures i l h in
    rw (c.is_column-column.ensures, c.y.ensures, a, b, d, e) at (c.fill_four.ensures i (omega arith))
    ∙ lower_four s.predictor c.args.run.now.image s.band c.args.run.now.y (c.args.run.now.x + i) c.args.nearest
