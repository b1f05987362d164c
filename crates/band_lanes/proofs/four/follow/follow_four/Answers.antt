use Rattle.std.proofs.Common.{◌+◌, ◌*◌, ◌^◌, ◌≤◌, ◌∙◌, unsigned_abs, sym, subst, ap, arith, map, to_z, of_z, int_le, w32, pow_mono, le_trans}
use Rattle.lanes.specs.Lanes.{lane}
use Rattle.lanes.proofs.Ranges.{vector}
use Rattle.lanes.proofs.Steps.{kept}
use Rattle.sample_prediction.specs.Weights.{updated_weights}
use Rattle.band_lanes.specs.Fours.{column_of, row_components}
use Rattle.band_lanes.proofs.four.follow.follow_four.Goals as goal

pub predicted-part-requires-clause-components_in : goal.predicted-part-requires-clause-components_in
predicted-part-requires-clause-components_in g c b l i m =
    let bits : c.args.step.bits + 2 ≤ 18 = (let h = c.args.step.bits_in in omega (arith, h)) in
    le_trans (c.requires.components_in b l i m) (pow_mono bits)

pub returns-clause-predicted : goal.returns-clause-predicted
returns-clause-predicted g c b l =
    let p = vector w32 4 c.predicted-part.result _ c.predicted-part.type_inv in kept w32 c.predicted-part.result b p.1 ∙ c.predicted-part.ensures.value b l

pub returns-clause-bound : goal.returns-clause-bound
returns-clause-bound g c b l =
    let p = vector w32 4 c.predicted-part.result _ c.predicted-part.type_inv in
    subst (λ v. unsigned_abs v ≤ 18 * 2 ^ 20) (sym (kept w32 c.predicted-part.result b p.1)) (c.predicted-part.ensures.bound b l)

pub returns-clause-weights : goal.returns-clause-weights
returns-clause-weights g c b l =
    let n = vector w32 4 c.numbers.result _ c.numbers.type_inv in
    c.update_all.ensures b l
    ∙ ap (λ x. updated_weights c.args.step.omega c.args.step.exponent (int_le x (lane (map (to_z w32) (map (of_z w32) c.predicted-part.result)) b))
    (column_of (2 * g.row.Q) b c.args.weights.now) (row_components (2 * g.row.Q) b c.args.rows.now c.args.i))
    (kept w32 c.numbers.result b n.1 ∙ ap (λ xs. lane xs b) c.numbers.ensures)
