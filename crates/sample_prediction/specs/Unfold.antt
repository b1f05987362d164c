-- Unfolds each definition, for the worked examples.
use Rattle.cube_core.specs.Image.{sample_at}
use Rattle.cube_core.specs.Order.{places}
use Rattle.sample_prediction.specs.Arithmetic.{wrapped}
use Rattle.sample_prediction.specs.LocalSum.{local_sum}
use Rattle.sample_prediction.specs.Differences.{central_difference, directional_differences, spectral_differences, difference_vector}
use Rattle.sample_prediction.specs.Weights.{eighths, default_weights, entries_before, table_weights, weights_by, growth, step_exponent, step, updated_weight}
use Rattle.sample_prediction.specs.Weights.{updated_weights}
use Rattle.sample_prediction.specs.Prediction.{inner_product, scaled_by, scaled_there, next_weights, weight_vector}
use Rattle.sample_prediction.specs.Prediction.{first_scaled, scaled_prediction, predicted_value}
use Rattle.sample_prediction.specs.Residual.{mapped_between, mapped_residual, residuals}

unfoldable pub everything : Unit {0}
unfolding sample_at places wrapped local_sum central_difference directional_differences spectral_differences difference_vector eighths default_weights
    entries_before table_weights weights_by growth step_exponent step updated_weight updated_weights inner_product scaled_by scaled_there next_weights
    weight_vector first_scaled scaled_prediction predicted_value mapped_between mapped_residual residuals
everything = tt
