use Rattle.std.proofs.Common.{◌/◌, ℤ, ◌-ℤ◌, neg_ℤ, ◌∙◌, ap, ap₂, map, to_z, of_z, w16, int_le}
use Rattle.lanes.specs.Lanes.{lane}
use Rattle.lanes.proofs.Ranges.{vector}
use Rattle.lanes.proofs.Steps.{kept}
use Rattle.sample_prediction.specs.Weights.{step, signed_by, weight_min, weight_max}
use Rattle.sample_prediction.specs.Arithmetic.{clip}
use Rattle.band_lanes.proofs.Updates.{with_opposite}
use Rattle.band_lanes.proofs.update.updated.Goals as goal

pub opposite-less-requires-clause-small : goal.opposite-less-requires-clause-small
opposite-less-requires-clause-small g c k l =
    let u = vector w16 16 c.row_of-components.result _ c.row_of-components.type_inv in
    rw (kept w16 c.row_of-components.result k u.1 ∙ ap (λ xs. lane xs k) c.row_of-components.ensures) (c.requires.small k l)

pub returns : goal.returns
returns g c k l =
    let w = vector w16 16 c.row_of-weights.result _ c.row_of-weights.type_inv in let u = vector w16 16 c.row_of-components.result _ c.row_of-components.type_inv in
    let own = vector w16 8 c.args.own _ c.well_formed.1.1.0 in let predicted = vector w16 8 c.args.predicted _ c.well_formed.1.1.1.0 in
    let o = vector w16 16 c.opposite-less.result _ c.opposite-less.type_inv in let d = vector w16 16 c.held_difference.result _ c.held_difference.type_inv in
    let r = vector w16 16 c.limited.result _ c.limited.type_inv in
    let same_own = kept w16 c.args.own (k / 2) own.1 in let same_predicted = kept w16 c.args.predicted (k / 2) predicted.1 in
    let same_w = kept w16 c.row_of-weights.result k w.1 ∙ ap (λ xs. lane xs k) c.row_of-weights.ensures in
    let same_u = kept w16 c.row_of-components.result k u.1 ∙ ap (λ xs. lane xs k) c.row_of-components.ensures in
    let less = kept w16 c.opposite-less.result k o.1 ∙ c.opposite-less.ensures k l
    ∙ ap (λ x. opposite_by x (lane (map (to_z w16) (map (of_z w16) c.args.predicted)) (k / 2)) (lane (map (to_z w16) (map (of_z w16) c.row_of-components.result)) k)) same_own
    ∙ ap₂ (λ x y. opposite_by (lane c.args.own (k / 2)) x y) same_predicted same_u in
    let moved = kept w16 c.held_difference.result k d.1 ∙ c.held_difference.ensures k l in
    kept w16 c.limited.result k r.1 ∙ c.limited.ensures k _ l moved
    ∙ ap (λ x. clip (x -ℤ lane (map (to_z w16) (map (of_z w16) c.opposite-less.result)) k) (weight_min c.args.step.omega) (weight_max c.args.step.omega)) same_w
    ∙ with_opposite c.args.step.omega c.args.step.exponent (lane c.args.own (k / 2)) (lane c.args.predicted (k / 2)) (lane c.args.weights.now k)
    (lane c.args.components.now k) _ less
  where
    opposite_by : ℤ → ℤ → ℤ → ℤ
    opposite_by a b x = neg_ℤ (step c.args.step.exponent (signed_by (int_le a b) x))
