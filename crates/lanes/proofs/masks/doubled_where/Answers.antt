use Rattle.std.proofs.Common.{◌∙◌}
use Rattle.lanes.specs.Lanes.{number}
use Rattle.lanes.proofs.MaskSteps.{below, step_of_step, twice, not_twice}
use Rattle.lanes.proofs.masks.doubled_where.Goals as goal

pub returns-clause-doubled : goal.returns-clause-doubled
returns-clause-doubled c k within set few =
    let a = c.fits-a in let m = c.fits-mask in
    step_of_step _ _ c.args.a c.args.a c.args.mask 8 k a.0 a.0 m.0 within ∙ twice (number c.args.a k) (number c.args.mask k) set few

pub returns-clause-kept : goal.returns-clause-kept
returns-clause-kept c k within clear =
    let a = c.fits-a in let m = c.fits-mask in
    step_of_step _ _ c.args.a c.args.a c.args.mask 8 k a.0 a.0 m.0 within
    ∙ not_twice (number c.args.a k) (number c.args.mask k) clear (below 8 k c.args.a a within)
