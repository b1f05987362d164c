use Rattle.std.proofs.Common.{◌≡◌, ℕ, ◌+◌, ◌*◌, ◌^◌, ◌<◌, ◌≤◌, ◌∙◌, [], refl, sym, ap, ap₂, subst, arith, w32, int_le, get_or, length, List, ℤ, length-set, get_or-set_other, unsigned_abs, pow_mono, le_trans, map, to_z, of_z}
use Rattle.lanes.specs.Lanes.{lane, place}
use Rattle.lanes.proofs.Ranges.{vector}
use Rattle.lanes.proofs.Steps.{kept}
use Rattle.sample_prediction.specs.Weights.{updated_weight, updated_weights}
use Rattle.band_lanes.specs.Fours.{column_of, no_rows, row_components}
use Rattle.band_lanes.proofs.Fours.{column_in, component_in, updates_more, updates_none}
use Rattle.band_lanes.proofs.four.follow.update_all.Goals as goal

pub update_row-requires-clause-weights_in : goal.update_row-requires-clause-weights_in
update_row-requires-clause-weights_in g c b l =
    let inside : c.loop-c.c < 2 * g.row.Q = c.loop-c-test.true in let few = c.requires.few in let long = c.told-weights in
    let most : c.args.step.omega + 2 ≤ 21 = (let h = c.args.step.omega_in in omega (arith, h)) in
    let old = column_in (2 ^ (c.args.step.omega + 2)) (2 * g.row.Q) b c.loop-c.c c.args.weights.now (omega (arith, few, long)) inside (c.requires.weights_in b l) in
    le_trans (subst (λ row. unsigned_abs (lane row b) ≤ 2 ^ (c.args.step.omega + 2)) (sym (c.loop-c.invariant.rest c.loop-c.c (omega arith))) old) (pow_mono most)

pub update_row-requires-clause-small : goal.update_row-requires-clause-small
update_row-requires-clause-small g c b l =
    let few = c.requires.few in let long = c.told-rows in
    component_in (2 ^ (c.args.step.bits + 2)) (2 * g.row.Q) b c.loop-c.c c.args.rows.now c.args.i (omega (arith, few, long)) c.loop-c-test.true (c.requires.components_in b l)

pub loop-c-init : goal.loop-c-init
loop-c-init g c = record {
  updated = λ b l. updates_none c.args.step.omega c.args.step.exponent _ b c.args.weights.now c.args.weights.now c.args.rows.now c.args.i;
  rest = λ j h. refl;
  long = c.told-weights;
}

pub loop-c-preserved : goal.loop-c-preserved
loop-c-preserved g c =
    let n : ℕ = c.loop-c.c in let inside : n < 18 = (let t = c.loop-c-test.true in let f = c.requires.few in omega (arith, t, f)) in
    let old = c.loop-c.invariant.rest n (omega arith) in let next = c.update_row.ensures.others in
    let row : List ℤ = get_or c.update_row.new.weights n [] in
    let lanes = λ (b : ℕ) (l : b < 4). c.update_row.ensures.updated b l
    ∙ ap (λ row. updated_weight c.args.step.omega c.args.step.exponent (int_le (lane (map (to_z w32) (map (of_z w32) c.args.own)) b) (lane (map (to_z w32) (map (of_z w32) c.args.predicted)) b)) (lane row b)
    (place (get_or c.args.rows.now n no_rows).places c.args.i b)) old in record {
      updated = λ b l. subst (λ ws. column_of (n + 1) b ws ≡ updated_weights c.args.step.omega c.args.step.exponent
          (int_le (lane (map (to_z w32) (map (of_z w32) c.args.own)) b) (lane (map (to_z w32) (map (of_z w32) c.args.predicted)) b)) (column_of (n + 1) b c.args.weights.now)
          (row_components (n + 1) b c.args.rows.now c.args.i)) (sym next)
          (updates_more c.args.step.omega c.args.step.exponent _ n b c.args.weights.now c.loop-c.weights c.args.rows.now c.args.i row
          (omega (arith, c.told-weights, inside)) (omega (arith, c.loop-c.invariant.long, inside)) (omega (arith, c.told-rows, inside))
          (lanes b l) (c.loop-c.invariant.updated b l));
      rest = λ j h. ap (λ ws. get_or ws j []) next ∙ get_or-set_other c.loop-c.weights n j row [] (omega (arith, h)) ∙ c.loop-c.invariant.rest j (omega (arith, h));
      long = ap length next ∙ length-set c.loop-c.weights n row ∙ c.loop-c.invariant.long;
    }

pub returns : goal.returns
returns g c b l =
    let own = vector w32 4 c.args.own _ c.well_formed.1.1.0 in let predicted = vector w32 4 c.args.predicted _ c.well_formed.1.1.1.0 in
    let done : c.loop-c.c ≡ 2 * g.row.Q = (let e = c.loop-c.auto.c-end in let f = c.loop-c-test.false in omega arith) in
    let h = subst (λ n. column_of n b c.loop-c.weights ≡ updated_weights c.args.step.omega c.args.step.exponent
    (int_le (lane (map (to_z w32) (map (of_z w32) c.args.own)) b) (lane (map (to_z w32) (map (of_z w32) c.args.predicted)) b)) (column_of n b c.args.weights.now)
    (row_components n b c.args.rows.now c.args.i)) done (c.loop-c.invariant.updated b l) in
    h ∙ ap₂ (λ x y. updated_weights c.args.step.omega c.args.step.exponent (int_le x y) (column_of (2 * g.row.Q) b c.args.weights.now)
    (row_components (2 * g.row.Q) b c.args.rows.now c.args.i)) (kept w32 c.args.own b own.1) (kept w32 c.args.predicted b predicted.1)
