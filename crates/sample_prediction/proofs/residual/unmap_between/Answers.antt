use Rattle.std.proofs.Common.{◌+ℤ◌, ◌≡◌, SFits, to_z-of_z, w32, arith, sym, rules, subst}
use Rattle.std.proofs.lemmas.Int.{ints, fits_signed_from_abs}
use Rattle.sample_prediction.specs.Mapping.{unmapped_between, Between}
use Rattle.sample_prediction.proofs.Residuals.{within}
use Rattle.sample_prediction.proofs.OneSample.{unmapped_is, sample_in, number_back}
use Rattle.sample_prediction.proofs.residual.unmap_between.Goals as goal
use Rattle.sample_prediction.proofs.residual.unmap_between.Goals.{After-unmap_error}

predicted_fits : (c : After-unmap_error) → SFits w32 c.prediction_of-predicted.result
predicted_fits c = search rules

error_fits : (c : After-unmap_error) → SFits w32 c.unmap_error.result
error_fits c = search rules

inside : (c : After-unmap_error) → Between c.args.low c.args.high c.prediction_of-predicted.result
inside c =
    within c.args.low c.args.high c.args.scaled c.prediction_of-predicted.result c.requires.scaled_low c.requires.scaled_high
    (simp (to_z-of_z c.ranges.scaled) at c.prediction_of-predicted.ensures.low) (simp (to_z-of_z c.ranges.scaled) at c.prediction_of-predicted.ensures.high)

sample_is : (c : After-unmap_error)
    → c.prediction_of-predicted.result +ℤ c.unmap_error.result ≡ unmapped_between c.args.low c.args.high c.args.scaled c.args.delta
sample_is c =
    unmapped_is c.args.low c.args.high c.args.scaled c.prediction_of-predicted.result c.unmap_error.result _ _ _ c.args.delta
    (simp (to_z-of_z c.ranges.scaled) at c.prediction_of-predicted.ensures.value)
    (simp (to_z-of_z c.ranges.low, to_z-of_z c.ranges.high, to_z-of_z (predicted_fits c)) at c.theta_of-theta.ensures.value)
    (simp (to_z-of_z c.ranges.low, to_z-of_z (predicted_fits c)) at c.span_of-below.ensures)
    (simp (to_z-of_z c.ranges.scaled) at c.unsigned_abs.ensures.value)
    c.unmap_error.ensures

in_range : (c : After-unmap_error) → Between c.args.low c.args.high (c.prediction_of-predicted.result +ℤ c.unmap_error.result)
in_range c = subst (Between c.args.low c.args.high) (sym (sample_is c)) (sample_in _ _ _ c.requires.scaled_low c.requires.scaled_high _ c.requires.delta_in)

result_fits : (c : After-unmap_error) → SFits w32 (c.prediction_of-predicted.result +ℤ c.unmap_error.result)
result_fits c = let i = in_range c in fits_signed_from_abs w32 (c.prediction_of-predicted.result +ℤ c.unmap_error.result) (omega (arith, ints))

pub overflow_add-result : goal.overflow_add-result
overflow_add-result c = rw (to_z-of_z (predicted_fits c), to_z-of_z (error_fits c)) (result_fits c)

pub returns-clause-value : goal.returns-clause-value
returns-clause-value c =
    let d = (goal.at.returns-clause-value c).After-unmap_error in
    rw (to_z-of_z (predicted_fits d), to_z-of_z (error_fits d), to_z-of_z (result_fits d)) (sample_is d)

pub returns-clause-range : goal.returns-clause-range
returns-clause-range c =
    let d = (goal.at.returns-clause-range c).After-unmap_error in
    rw (to_z-of_z (predicted_fits d), to_z-of_z (error_fits d), to_z-of_z (result_fits d)) (in_range d)

pub returns-clause-inverse : goal.returns-clause-inverse
returns-clause-inverse c =
    let d = (goal.at.returns-clause-inverse c).After-unmap_error in
    rw (to_z-of_z (predicted_fits d), to_z-of_z (error_fits d), to_z-of_z (result_fits d), sample_is d)
    (number_back c.args.low c.args.high c.args.scaled c.requires.scaled_low c.requires.scaled_high c.args.delta c.requires.delta_in)
