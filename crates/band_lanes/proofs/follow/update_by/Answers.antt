use Rattle.std.proofs.Common.{◌≡◌, ℕ, ◌<◌, ◌/◌, ◌∙◌, [], refl, ap, ap₂, subst, arith, w16, int_le, get_or, length-set, get_or-set_other}
use Rattle.lanes.specs.Lanes.{lane}
use Rattle.lanes.proofs.Ranges.{vector}
use Rattle.lanes.proofs.Steps.{kept}
use Rattle.sample_prediction.specs.Weights.{updated_weight, updated_weights}
use Rattle.band_lanes.specs.Rows.{row_at, no_pairs, weights_of, components_of}
use Rattle.band_lanes.specs.Updates.{updated_lane}
use Rattle.band_lanes.proofs.Rows.{pair_is, updates_more, updates_none}
use Rattle.band_lanes.proofs.follow.update_by.Goals as goal

pub updated-row-requires-clause-small : goal.updated-row-requires-clause-small
updated-row-requires-clause-small g c k l = c.requires.below c.loop-c.c k (let t = c.loop-c-test.true in let f = c.requires.few in omega arith) l

pub loop-c-init : goal.loop-c-init
loop-c-init g c = record {
  updated = λ b l. updates_none c.args.step.omega c.args.step.exponent _ b c.args.weights.now c.args.weights.now c.args.pairs.now c.args.i;
  rest = λ j h. refl;
  long = c.told-weights;
}

pub loop-c-preserved : goal.loop-c-preserved
loop-c-preserved g c =
    let n : ℕ = c.loop-c.c in let inside : n < 9 = (let t = c.loop-c-test.true in let f = c.requires.few in omega arith) in
    let own = vector w16 8 c.band_row-own.result _ c.band_row-own.type_inv in let predicted = vector w16 8 c.band_row-predicted.result _ c.band_row-predicted.type_inv in
    let old = c.loop-c.invariant.rest n (omega arith) in
    let lanes = λ (k : ℕ) (l : k < 16). c.updated-row.ensures k l
    ∙ ap₂ (λ x y. updated_weight c.args.step.omega c.args.step.exponent (int_le x y) (lane (get_or c.loop-c.weights n []) k)
    (lane (row_at (get_or c.args.pairs.now n no_pairs) c.args.i) k)) (kept w16 c.band_row-own.result (k / 2) own.1) (kept w16 c.band_row-predicted.result (k / 2) predicted.1)
    ∙ ap (λ row. updated_lane c.args.step.omega c.args.step.exponent c.band_row-own.result c.band_row-predicted.result row
    (row_at (get_or c.args.pairs.now n no_pairs) c.args.i) k) old in record {
      updated = λ b l. updates_more c.args.step.omega c.args.step.exponent _ n b c.args.weights.now c.loop-c.weights c.updated-row.result c.args.pairs.now c.args.i
          (omega (arith, c.told-weights, inside)) (omega (arith, c.loop-c.invariant.long, inside)) (omega (arith, c.told-pairs, inside))
          (pair_is c.args.step.omega c.args.step.exponent c.band_row-own.result c.band_row-predicted.result c.updated-row.result (get_or c.args.weights.now n [])
          (row_at (get_or c.args.pairs.now n no_pairs) c.args.i) b lanes l) (c.loop-c.invariant.updated b l);
      rest = λ j h. get_or-set_other c.loop-c.weights n j c.updated-row.result [] (omega (arith, h)) ∙ c.loop-c.invariant.rest j (omega (arith, h));
      long = length-set c.loop-c.weights n c.updated-row.result ∙ c.loop-c.invariant.long;
    }

pub returns : goal.returns
returns g c b l =
    let done : c.loop-c.c ≡ g.row.Q = (let e = c.loop-c.auto.c-end in let f = c.loop-c-test.false in omega arith) in
    let h = subst (λ n. weights_of n b c.loop-c.weights ≡ updated_weights c.args.step.omega c.args.step.exponent
    (int_le (lane c.band_row-own.result b) (lane c.band_row-predicted.result b)) (weights_of n b c.args.weights.now) (components_of n b c.args.pairs.now c.args.i))
    done (c.loop-c.invariant.updated b l) in
    h ∙ ap₂ (λ x y. updated_weights c.args.step.omega c.args.step.exponent (int_le (lane x b) (lane y b)) (weights_of g.row.Q b c.args.weights.now)
    (components_of g.row.Q b c.args.pairs.now c.args.i)) c.band_row-own.ensures c.band_row-predicted.ensures
