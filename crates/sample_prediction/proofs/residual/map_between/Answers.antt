use Rattle.std.proofs.Common.{◌-ℤ◌, ◌≤ℤ◌, ◌≡◌, unsigned_abs, SFits, to_z-of_z, w32, arith, sym, ◌∙◌, rules, IsTrue, subst}
use Rattle.std.proofs.lemmas.Int.{ints}
use Rattle.sample_prediction.specs.Residual.{theta_between, agrees}
use Rattle.sample_prediction.proofs.Residuals.{SFits-near, size_fits, zero_agrees, mapped_is, within}
use Rattle.sample_prediction.proofs.residual.map_between.Goals as goal
use Rattle.sample_prediction.proofs.residual.map_between.Goals.{After-has_sign-sign}

predicted_fits : (c : After-has_sign-sign) → SFits w32 c.prediction_of-predicted.result
predicted_fits c = search rules

inside : (c : After-has_sign-sign) → (c.args.low ≤ℤ c.prediction_of-predicted.result) × (c.prediction_of-predicted.result ≤ℤ c.args.high)
inside c =
    let a = simp (to_z-of_z c.ranges.scaled) at c.prediction_of-predicted.ensures.low in
    let b = simp (to_z-of_z c.ranges.scaled) at c.prediction_of-predicted.ensures.high in within _ _ _ _ c.requires.scaled_low c.requires.scaled_high a b

error_fits : (c : After-has_sign-sign) → SFits w32 (c.args.v -ℤ c.prediction_of-predicted.result)
error_fits c = let i = inside c in SFits-near c.prediction_of-predicted.result c.args.v (omega (arith, ints)) (omega (arith, ints))

size_is : (c : After-has_sign-sign) → c.unsigned_abs-size.result ≡ unsigned_abs (c.args.v -ℤ c.prediction_of-predicted.result)
size_is c = simp (to_z-of_z c.ranges.v, to_z-of_z (predicted_fits c), to_z-of_z (error_fits c)) at c.unsigned_abs-size.ensures.value

theta_is : (c : After-has_sign-sign) → c.theta_of-theta.result ≡ theta_between c.args.low c.args.high c.prediction_of-predicted.result
theta_is c = simp (to_z-of_z c.ranges.low, to_z-of_z c.ranges.high, to_z-of_z (predicted_fits c)) at c.theta_of-theta.ensures.value

sign_is : (c : After-has_sign-sign) → c.has_sign-sign.result ≡ agrees c.args.scaled (c.args.v -ℤ c.prediction_of-predicted.result)
sign_is c = simp (to_z-of_z c.ranges.v, to_z-of_z c.ranges.scaled, to_z-of_z (predicted_fits c), to_z-of_z (error_fits c)) at c.has_sign-sign.ensures

pub map_error-requires-clause-fits : goal.map_error-requires-clause-fits
map_error-requires-clause-fits c =
    size_fits _ _ _ _ _ _ c.requires.high_in (inside c).0 (inside c).1 c.requires.v_low c.requires.v_high (theta_is c) (size_is c)

pub map_error-requires-clause-zero : goal.map_error-requires-clause-zero
map_error-requires-clause-zero c h =
    subst IsTrue (sym (sign_is c)) (zero_agrees c.args.scaled (c.args.v -ℤ c.prediction_of-predicted.result) (sym (size_is c) ∙ h))

pub returns : goal.returns
returns c =
    let d = (goal.at.returns c).After-has_sign-sign in mapped_is c.args.low c.args.high c.args.scaled c.args.v c.prediction_of-predicted.result _ _ _ _
    (simp (to_z-of_z c.ranges.scaled) at c.prediction_of-predicted.ensures.value)
    (theta_is d) (size_is d) (sign_is d) c.map_error.ensures.value
