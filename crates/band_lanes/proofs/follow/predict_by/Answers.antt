use Rattle.std.proofs.Common.{◌∙◌, ap, w16, w32}
use Rattle.lanes.specs.Lanes.{held}
use Rattle.lanes.proofs.Ranges.{vector}
use Rattle.lanes.proofs.Steps.{kept}
use Rattle.band_lanes.proofs.follow.predict_by.Goals as goal

pub returns : goal.returns
returns g c b l =
    let p = vector w32 8 c.predicted_by.result _ c.predicted_by.type_inv in let h = vector w16 8 c.held.result _ c.held.type_inv in
    kept w16 c.held.result b h.1 ∙ c.held.ensures b l ∙ ap held (kept w32 c.predicted_by.result b p.1 ∙ c.predicted_by.ensures b l)
