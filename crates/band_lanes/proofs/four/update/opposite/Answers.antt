use Rattle.std.proofs.Common.{◌∙◌, ◌^◌, ◌≤◌, unsigned_abs, refl, sym, subst, ap, map, to_z, w32}
use Rattle.lanes.specs.Lanes.{lane}
use Rattle.lanes.proofs.Ranges.{vector}
use Rattle.lanes.proofs.Steps.{kept}
use Rattle.band_lanes.proofs.four.update.opposite.Goals as goal
use Rattle.band_lanes.proofs.four.update.opposite.Goals.{then-this-ne0, else-this-ne0}

pub raised-requires-clause-small : goal.raised-requires-clause-small
raised-requires-clause-small g c k l =
    let u = vector w32 4 c.args.components _ c.well_formed.0 in rw (kept w32 c.args.components k u.1) (c.requires.small k l)

pub lowered-requires-clause-small : goal.lowered-requires-clause-small
lowered-requires-clause-small g c k l =
    let u = vector w32 4 c.args.components _ c.well_formed.0 in rw (kept w32 c.args.components k u.1) (c.requires.small k l)

pub returns-clause-value : goal.returns-clause-value
returns-clause-value g c k l =
    let u = vector w32 4 c.args.components _ c.well_formed.0 in let own = vector w32 4 c.args.own _ c.well_formed.1.0 in
    let predicted = vector w32 4 c.args.predicted _ c.well_formed.1.1.0 in
    let same_own = kept w32 c.args.own k own.1 in let same_predicted = kept w32 c.args.predicted k predicted.1 in
    let same_u = kept w32 c.args.components k u.1 in
    elim c.if-this-ne0.branch [
      | then-this-ne0 w ↦
          (let r = vector w32 4 w.raised.result _ w.raised.type_inv in
          ap (λ xs. lane (map (to_z w32) xs) k) w.result-is ∙ kept w32 w.raised.result k r.1 ∙ w.raised.ensures.value k l ∙ rw (same_own, same_predicted, same_u) refl)
      | else-this-ne0 w ↦
          (let r = vector w32 4 w.lowered.result _ w.lowered.type_inv in
          ap (λ xs. lane (map (to_z w32) xs) k) w.result-is ∙ kept w32 w.lowered.result k r.1 ∙ w.lowered.ensures.value k l ∙ rw (same_own, same_predicted, same_u) refl)
    ]

pub returns-clause-bound : goal.returns-clause-bound
returns-clause-bound g c k l =
    elim c.if-this-ne0.branch [
      | then-this-ne0 w ↦
          (let r = vector w32 4 w.raised.result _ w.raised.type_inv in
          subst (λ v. unsigned_abs v ≤ 2 ^ 27) (sym (ap (λ xs. lane (map (to_z w32) xs) k) w.result-is ∙ kept w32 w.raised.result k r.1)) (w.raised.ensures.bound k l))
      | else-this-ne0 w ↦
          (let r = vector w32 4 w.lowered.result _ w.lowered.type_inv in
          subst (λ v. unsigned_abs v ≤ 2 ^ 27) (sym (ap (λ xs. lane (map (to_z w32) xs) k) w.result-is ∙ kept w32 w.lowered.result k r.1)) (w.lowered.ensures.bound k l))
    ]
