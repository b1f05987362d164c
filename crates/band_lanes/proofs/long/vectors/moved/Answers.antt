use Rattle.std.proofs.Common.{◌+◌, ◌-◌, ◌∙◌, ap, w32}
use Rattle.lanes.specs.Lanes.{lane}
use Rattle.lanes.proofs.Ranges.{vector}
use Rattle.lanes.proofs.Steps.{kept}
use Rattle.band_lanes.proofs.long.vectors.moved.Goals as goal

pub returns-clause-first : goal.returns-clause-first
returns-clause-first c k l =
    let a = vector w32 8 c.eight_numbers.result _ c.eight_numbers.type_inv in let r = vector w32 8 c.moved_lanes.result _ c.moved_lanes.type_inv in
    kept w32 c.moved_lanes.result k r.1 ∙ c.moved_lanes.ensures.first k l
    ∙ kept w32 c.eight_numbers.result (8 + k - c.args.by) a.1 ∙ ap (λ v. lane v (8 + k - c.args.by)) c.eight_numbers.ensures

pub returns-clause-second : goal.returns-clause-second
returns-clause-second c k low l =
    let b = vector w32 8 c.eight_numbers-2.result _ c.eight_numbers-2.type_inv in let r = vector w32 8 c.moved_lanes.result _ c.moved_lanes.type_inv in
    kept w32 c.moved_lanes.result k r.1 ∙ c.moved_lanes.ensures.second k low l
    ∙ kept w32 c.eight_numbers-2.result (k - c.args.by) b.1 ∙ ap (λ v. lane v (k - c.args.by)) c.eight_numbers-2.ensures
