use Rattle.std.proofs.Common.{◌∙◌, [], ap, ap₂, arith, get_or-set_same, map, to_z, of_z, int_le, w32}
use Rattle.lanes.specs.Lanes.{lane, place}
use Rattle.lanes.proofs.Ranges.{vector}
use Rattle.lanes.proofs.Steps.{kept}
use Rattle.sample_prediction.specs.Weights.{updated_weight}
use Rattle.band_lanes.proofs.four.update.update_row.Goals as goal

pub returns-clause-updated : goal.returns-clause-updated
returns-clause-updated g c b l =
    let own = vector w32 4 c.args.own _ c.well_formed.1.1.1.0 in let predicted = vector w32 4 c.args.predicted _ c.well_formed.1.1.1.1.0 in
    let r = vector w32 4 c.updated-row.result _ c.updated-row.type_inv in
    ap (λ ws. place ws c.args.c b) c.put_row.ensures
    ∙ ap (λ row. lane row b) (get_or-set_same c.args.weights.now c.args.c (map (to_z w32) (map (of_z w32) c.updated-row.result)) []
    (let row = c.requires.row in let long = c.told-weights in omega (arith, row, long)))
    ∙ kept w32 c.updated-row.result b r.1 ∙ c.updated-row.ensures b l
    ∙ ap₂ (λ x y. updated_weight c.args.step.omega c.args.step.exponent (int_le x y) (place c.args.weights.now c.args.c b) (lane c.args.components.now b))
    (kept w32 c.args.own b own.1) (kept w32 c.args.predicted b predicted.1)
