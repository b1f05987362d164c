use Rattle.std.proofs.Common.{◌∙◌, ap, w16, w32}
use Rattle.lanes.proofs.Ranges.{vector}
use Rattle.lanes.proofs.Steps.{kept}
use Rattle.lanes.specs.Lanes.{held}
use Rattle.lanes.proofs.wide.held.Goals as goal

pub returns : goal.returns
returns c k within =
    let a = vector w32 8 c.args.a _ c.well_formed.0 in let r = vector w16 8 c.hold.result _ c.hold.type_inv in
    kept w16 c.hold.result k r.1 ∙ c.hold.ensures k within ∙ ap held (kept w32 c.args.a k a.1)
