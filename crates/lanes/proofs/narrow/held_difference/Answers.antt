use Rattle.std.proofs.Common.{◌∙◌, ap, ap₂, ◌-ℤ◌, w16, w32}
use Rattle.lanes.proofs.Ranges.{vector}
use Rattle.lanes.proofs.Steps.{kept}
use Rattle.lanes.specs.Lanes.{held}
use Rattle.lanes.proofs.narrow.held_difference.Goals as goal

pub returns : goal.returns
returns c k within =
    let a = vector w16 16 c.args.a _ c.well_formed.0 in let b = vector w16 16 c.args.b _ c.well_formed.1.0 in
    let d = vector w32 16 c.differences.result _ c.differences.type_inv in
    let r = vector w16 16 c.hold.result _ c.hold.type_inv in
    kept w16 c.hold.result k r.1 ∙ c.hold.ensures k within ∙ ap held (kept w32 c.differences.result k d.1 ∙ c.differences.ensures k within
    ∙ ap₂ (λ x y. x -ℤ y) (kept w16 c.args.a k a.1) (kept w16 c.args.b k b.1))
