use Rattle.std.proofs.Common.{◌∙◌}
use Rattle.lanes.specs.Lanes.{number}
use Rattle.lanes.proofs.MaskSteps.{below, step_of_step, lessened, not_lessened}
use Rattle.lanes.proofs.masks.lessened_where.Goals as goal

pub returns-clause-lessened : goal.returns-clause-lessened
returns-clause-lessened c k within set le =
    let a = c.fits-a in let b = c.fits-b in let m = c.fits-mask in
    step_of_step _ _ c.args.a c.args.b c.args.mask 8 k a.0 b.0 m.0 within
    ∙ lessened (number c.args.a k) (number c.args.b k) (number c.args.mask k) set le (below 8 k c.args.a a within)

pub returns-clause-kept : goal.returns-clause-kept
returns-clause-kept c k within clear =
    let a = c.fits-a in let b = c.fits-b in let m = c.fits-mask in
    step_of_step _ _ c.args.a c.args.b c.args.mask 8 k a.0 b.0 m.0 within
    ∙ not_lessened (number c.args.a k) (number c.args.b k) (number c.args.mask k) clear (below 8 k c.args.a a within)
