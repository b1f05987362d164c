use Rattle.std.proofs.Common.{◌≡◌, ◌%◌, ℤ, pos, ◌+ℤ◌, ◌-ℤ◌, ◌*ℤ◌, int_lt, SFits, w32, to_z-of_z, refl, ap, ◌∙◌, arith, rules}
use Rattle.std.proofs.lemmas.Int.{ints}
use Rattle.sample_prediction.specs.Mapping.{unmapped_between, error_of}
use Rattle.sample_prediction.proofs.NearSamples.{with_parity}
use Rattle.sample_prediction.proofs.OneSample.{unmapped_is}
use Rattle.sample_prediction.proofs.residual.sign_mask_between.Goals as goal

-- what is left of both, once twice the prediction is taken from them
left : (scaled predicted error sample parity : ℤ) → scaled ≡ pos 2 *ℤ predicted +ℤ parity → predicted +ℤ error ≡ sample
    → pos 2 *ℤ error -ℤ parity ≡ pos 2 *ℤ sample -ℤ scaled
left scaled predicted error sample parity e h = omega (arith, ints, e, h)

pub returns-clause-value : goal.returns-clause-value
returns-clause-value c =
    let predicted_fits : SFits w32 c.prediction_of-predicted.result = search rules in let fits : SFits w32 c.sign_mask_of_number.result = search rules in
    let half = simp (to_z-of_z c.ranges.scaled) at c.prediction_of-predicted.ensures.value in
    let theta = simp (to_z-of_z c.ranges.low, to_z-of_z c.ranges.high, to_z-of_z predicted_fits) at c.theta_of-theta.ensures.value in
    let below = simp (to_z-of_z c.ranges.low, to_z-of_z predicted_fits) at c.span_of-below.ensures in
    let parity = simp (to_z-of_z c.ranges.scaled) at c.unsigned_abs.ensures.value in
    let sample = unmapped_is c.args.low c.args.high c.args.scaled c.prediction_of-predicted.result _ _ _ _ c.args.delta half theta below parity refl in
    let whole = rw (← parity) at (with_parity c.args.scaled c.prediction_of-predicted.result half) in rw (to_z-of_z fits)
    (c.sign_mask_of_number.ensures.value ∙ ap (λ v. int_lt v (pos 0)) (left c.args.scaled c.prediction_of-predicted.result
    (error_of c.theta_of-theta.result c.span_of-below.result c.unsigned_abs.result c.args.delta)
    (unmapped_between c.args.low c.args.high c.args.scaled c.args.delta) (pos (c.unsigned_abs.result % 2)) whole sample))
