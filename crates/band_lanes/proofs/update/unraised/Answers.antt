use Rattle.std.proofs.Common.{◌/◌, ◌∙◌, refl, ap, map, to_z, w16}
use Rattle.lanes.specs.Lanes.{lane}
use Rattle.lanes.proofs.Ranges.{vector}
use Rattle.lanes.proofs.Steps.{kept}
use Rattle.band_lanes.proofs.update.unraised.Goals as goal
use Rattle.band_lanes.proofs.update.unraised.Goals.{then-this-ne0, else-this-ne0}

pub deep_lowered-requires-clause-small : goal.deep_lowered-requires-clause-small
deep_lowered-requires-clause-small g c k l =
    let u = vector w16 16 c.args.components _ c.well_formed.0 in rw (kept w16 c.args.components k u.1) (c.requires.small k l)

pub lowered-requires-clause-small : goal.lowered-requires-clause-small
lowered-requires-clause-small g c k l =
    let u = vector w16 16 c.args.components _ c.well_formed.0 in rw (kept w16 c.args.components k u.1) (c.requires.small k l)

pub returns : goal.returns
returns g c k l =
    let u = vector w16 16 c.args.components _ c.well_formed.0 in let own = vector w16 8 c.args.own _ c.well_formed.1.0 in
    let predicted = vector w16 8 c.args.predicted _ c.well_formed.1.1.0 in
    let same_own = kept w16 c.args.own (k / 2) own.1 in let same_predicted = kept w16 c.args.predicted (k / 2) predicted.1 in
    let same_u = kept w16 c.args.components k u.1 in
    elim c.if-this-ne0.branch [
      | then-this-ne0 w ↦
          (let r = vector w16 16 w.deep_lowered.result _ w.deep_lowered.type_inv in
          ap (λ xs. lane (map (to_z w16) xs) k) w.result-is ∙ kept w16 w.deep_lowered.result k r.1 ∙ w.deep_lowered.ensures k l ∙ rw (same_own, same_predicted, same_u) refl)
      | else-this-ne0 w ↦
          (let r = vector w16 16 w.lowered.result _ w.lowered.type_inv in
          ap (λ xs. lane (map (to_z w16) xs) k) w.result-is ∙ kept w16 w.lowered.result k r.1 ∙ w.lowered.ensures k l ∙ rw (same_own, same_predicted, same_u) refl)
    ]
