use Rattle.std.proofs.Common.{◌≡◌, ℕ, ◌+◌, ◌^◌, ◌<◌, ◌≤◌, ◌∙◌, [], refl, sym, ap, ap₂, subst, arith, int_le, get_or, length-set, get_or-set_other, unsigned_abs, pow_mono, le_trans}
use Rattle.lanes.specs.Lanes.{lane}
use Rattle.sample_prediction.specs.Weights.{updated_weight, updated_weights}
use Rattle.band_lanes.specs.Rows.{weights_of, pairs_of}
use Rattle.band_lanes.specs.Updates.{updated_lane}
use Rattle.band_lanes.proofs.Rows.{pair_is}
use Rattle.band_lanes.proofs.LongRows.{rows_within, row_updates_none, row_updates_more}
use Rattle.band_lanes.proofs.long.update.update_all.Goals as goal

pub updated_row-row-requires-clause-weights_in : goal.updated_row-row-requires-clause-weights_in
updated_row-row-requires-clause-weights_in g c k l =
    let few = c.requires.few in let long = c.told-weights in let n : ℕ = c.loop-c.c in
    let most : c.args.step.omega + 2 ≤ 21 = (let h = c.args.step.omega_in in omega (arith, h)) in let power : 2 ^ (c.args.step.omega + 2) ≤ 2 ^ 21 = pow_mono most in
    let within = rows_within (2 ^ (c.args.step.omega + 2)) g.row.Q c.args.weights.now (omega (arith, few, long)) c.requires.weights_in n k c.loop-c-test.true l in
    subst (λ row. unsigned_abs (lane row k) ≤ 2 ^ 21) (sym (c.loop-c.invariant.rest n (omega arith))) (le_trans within power)

pub updated_row-row-requires-clause-small : goal.updated_row-row-requires-clause-small
updated_row-row-requires-clause-small g c k l = c.requires.components_in c.loop-c.c k c.loop-c-test.true l

pub loop-c-init : goal.loop-c-init
loop-c-init g c = record {
  updated = λ b l. row_updates_none c.args.step.omega c.args.step.exponent _ b c.args.weights.now c.args.weights.now c.args.components.now;
  rest = λ j h. refl;
  long = c.told-weights;
}

pub loop-c-preserved : goal.loop-c-preserved
loop-c-preserved g c =
    let n : ℕ = c.loop-c.c in let inside : n < 9 = (let t = c.loop-c-test.true in let f = c.requires.few in omega (arith, t, f)) in
    let old = c.loop-c.invariant.rest n (omega arith) in let us = get_or c.args.components.now n [] in
    let lanes = λ (k : ℕ) (l : k < 16). c.updated_row-row.ensures k l
    ∙ ap₂ (λ x y. updated_weight c.args.step.omega c.args.step.exponent (int_le x y) (lane (get_or c.loop-c.weights n []) k) (lane us k))
    (c.spread-own.ensures k l) (c.spread-predicted.ensures k l)
    ∙ ap (λ row. updated_lane c.args.step.omega c.args.step.exponent c.args.own.now c.args.predicted.now row us k) old in record {
      updated = λ b l. row_updates_more c.args.step.omega c.args.step.exponent _ n b c.args.weights.now c.loop-c.weights c.args.components.now c.updated_row-row.result
          (omega (arith, c.told-weights, inside)) (omega (arith, c.loop-c.invariant.long, inside)) (omega (arith, c.told-components, inside))
          (pair_is c.args.step.omega c.args.step.exponent c.args.own.now c.args.predicted.now c.updated_row-row.result (get_or c.args.weights.now n []) us b lanes l)
          (c.loop-c.invariant.updated b l);
      rest = λ j h. get_or-set_other c.loop-c.weights n j c.updated_row-row.result [] (omega (arith, h)) ∙ c.loop-c.invariant.rest j (omega (arith, h));
      long = length-set c.loop-c.weights n c.updated_row-row.result ∙ c.loop-c.invariant.long;
    }

pub returns : goal.returns
returns g c b l =
    let done : c.loop-c.c ≡ g.row.Q = (let e = c.loop-c.auto.c-end in let f = c.loop-c-test.false in omega (arith, e, f)) in
    subst (λ n. weights_of n b c.loop-c.weights ≡ updated_weights c.args.step.omega c.args.step.exponent (int_le (lane c.args.own.now b) (lane c.args.predicted.now b))
    (weights_of n b c.args.weights.now) (pairs_of n b c.args.components.now)) done (c.loop-c.invariant.updated b l)
