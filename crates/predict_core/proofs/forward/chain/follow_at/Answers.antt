use Rattle.std.proofs.Common.{◌≡◌, ◌+◌, ◌≤◌, ◌-◌, ◌^◌, ℤ, pos, negsuc, ◌≤ℤ◌, ◌+ℤ◌, ◌*ℤ◌, ap, ◌∙◌, int_le, take, SFits, w32, to_z, of_z, to_z-of_z}
use Rattle.std.proofs.Common.{rules, arith, pow_mono}
use Rattle.std.proofs.lemmas.Int.{ints}
use Rattle.sample_prediction.specs.Chain.{scaled_by_difference}
use Rattle.sample_prediction.specs.LocalSum.{local_sum}
use Rattle.sample_prediction.specs.Prediction.{scaled_by}
use Rattle.sample_prediction.specs.Weights.{updated_weights}
use Rattle.predict_core.proofs.Chains.{scaled_from_room, next_from_room}
use Rattle.sample_prediction.proofs.Moves.{within_most}
use Rattle.predict_core.proofs.Ranges.{central_within, padded_within}
use Rattle.predict_core.proofs.forward.chain.follow_at.Given as given
use Rattle.predict_core.proofs.forward.chain.follow_at.Goals as goal
use Rattle.predict_core.proofs.forward.chain.follow_at.Goals.{After-predicted_difference-predicted}

-- the local sum, as the code computes it
reckoned : (low sum : ℤ) → (negsuc 32767 ≤ℤ low) × (low ≤ℤ pos 0) → (pos 0 ≤ℤ sum) × (sum ≤ℤ pos 262140)
    → to_z w32 (of_z w32 (to_z w32 (of_z w32 (pos 4 *ℤ to_z w32 (of_z w32 low))) +ℤ to_z w32 (of_z w32 sum))) ≡ pos 4 *ℤ low +ℤ sum
reckoned low sum h k = let a = h.0 in let b = h.1 in let d = k.0 in let e = k.1 in omega (arith, ints, a, b, d, e)

pub predicted_difference-predicted-requires-clause-differences_in : goal.predicted_difference-predicted-requires-clause-differences_in
predicted_difference-predicted-requires-clause-differences_in g c =
    let s = c.args.settings.now in let bits : c.args.run.now.image.kind.bits ≤ 16 = c.prove_is_row.ensures.cube.bits.1 in
    within_most c.args.run.now.image.kind.bits c.args.differences.now bits
    (rw c.requires.differences_are (padded_within s.predictor _ c.prove_is_row.ensures.cube _ _ c.requires.later (rw c.requires.columns s.wide)
    s.band c.requires.place (18 - s.count)))

pub follow-requires-clause-own_in : goal.follow-requires-clause-own_in
follow-requires-clause-own_in g c =
    let s = c.args.settings.now in let power : 2 ^ c.args.run.now.image.kind.bits ≤ 2 ^ 16 = pow_mono (c.prove_is_row.ensures.cube.bits.1) in
    let small = central_within s.predictor c.args.run.now.image c.prove_is_row.ensures.cube c.args.run.now.y (c.args.run.now.x + c.args.i) c.requires.later (rw c.requires.columns s.wide)
    s.band c.requires.place in
    rw (to_z-of_z c.ranges.own, c.requires.own_is) (omega (arith, power, small))

pub follow-requires-clause-differences_in : goal.follow-requires-clause-differences_in
follow-requires-clause-differences_in g c =
    let s = c.args.settings.now in rw (c.requires.differences_are, c.requires.bits, s.range.bits_is, ← c.requires.kind)
    (padded_within s.predictor c.args.run.now.image c.prove_is_row.ensures.cube c.args.run.now.y (c.args.run.now.x + c.args.i) c.requires.later (rw c.requires.columns s.wide)
    s.band c.requires.place (18 - s.count))

-- the scaled prediction comes from the predicted difference
module _ (g : given.Over) (c : After-predicted_difference-predicted g) where
  from_difference : scaled_by c.args.settings.now.predictor c.args.run.now.image.kind (local_sum c.args.settings.now.predictor c.args.run.now.image
      c.args.settings.now.band c.args.run.now.y (c.args.run.now.x + c.args.i)) (take g.row.N c.args.weights.now) (take g.row.N c.args.differences.now)
      ≡ scaled_by_difference c.args.run.now.image.kind c.predicted_difference-predicted.result
      (local_sum c.args.settings.now.predictor c.args.run.now.image c.args.settings.now.band c.args.run.now.y (c.args.run.now.x + c.args.i))
  from_difference =
      let s = c.args.settings.now in let r = s.range in
      let sum : pos 4 *ℤ r.smin +ℤ c.args.sum ≡ local_sum s.predictor c.args.run.now.image s.band c.args.run.now.y (c.args.run.now.x + c.args.i) =
      rw (r.smin_is, ← c.requires.kind) c.requires.sum_is in
      rw (← sum, c.requires.kind) (rw (reckoned r.smin c.args.sum r.low c.requires.sum_in) at c.predicted_difference-predicted.ensures.scaled)

pub returns-clause-scaled : goal.returns-clause-scaled
returns-clause-scaled g c =
    let d = (goal.at.returns-clause-scaled g c).After-predicted_difference-predicted in let s = c.args.settings.now in
    let fits : SFits w32 c.predicted_difference-predicted.result = search rules in rw (to_z-of_z fits)
    (scaled_from_room s.predictor c.args.run.now.image s.band c.args.run.now.y (c.args.run.now.x + c.args.i) s.count g.row.N c.args.weights.now c.args.differences.now c.prove_is_row.ensures.cube
    c.requires.place s.count_is c.requires.enough c.requires.few c.requires.differences_are c.predicted_difference-predicted.result (from_difference g d))

pub returns-clause-weights : goal.returns-clause-weights
returns-clause-weights g c =
    let d = (goal.at.returns-clause-weights g c).After-predicted_difference-predicted in let s = c.args.settings.now in
    let fits : SFits w32 c.predicted_difference-predicted.result = search rules in
    let moved = (simp (to_z-of_z c.ranges.own, to_z-of_z fits) at c.follow.ensures.weights)
    ∙ ap (λ f. updated_weights f c.args.steps.exponent (int_le c.args.own c.predicted_difference-predicted.result) (take g.row.N c.args.weights.now)
    (take g.row.N c.args.differences.now)) c.requires.omega in
    next_from_room s.predictor _ s.band _ _ s.count g.row.N _ _ c.prove_is_row.ensures.cube c.requires.place s.count_is c.requires.enough c.requires.few
    c.requires.differences_are _ (from_difference g d) _ _ _ c.requires.own_is c.requires.exponent moved
