-- The weights at each place, and the prediction from them (CCSDS 123.0-B-1, "Prediction Calculation").
-- The raster index of a place in its band is t = y * columns + x.
use Rattle.std.specs.Prelude.{ℕ, zero, suc, ◌+◌, ◌-◌, ◌/◌, ◌%◌, ◌^◌, ◌==◌, ◌||◌, ℤ, pos, ◌+ℤ◌, ◌-ℤ◌, ◌*ℤ◌, int_lt, List, [], ◌∷◌, if◌then◌else◌}
use Rattle.header_bits.specs.declared.params.Params.{Params}
use Rattle.cube_core.specs.Kind.{SampleKind, smin, smid, smax}
use Rattle.cube_core.specs.Image.{Image, sample_at}
use Rattle.sample_prediction.specs.Arithmetic.{floor_div, clip, wrapped}
use Rattle.sample_prediction.specs.declared.predictor.Predictor.{Predictor}
use Rattle.sample_prediction.specs.Predictor.{predictor_of}
use Rattle.sample_prediction.specs.LocalSum.{local_sum}
use Rattle.sample_prediction.specs.Differences.{difference_vector}
use Rattle.sample_prediction.specs.Weights.{start_weights, step_exponent, updated_weights}

-- the inner product of weights and local differences
unfoldable pub inner_product : List ℤ → List ℤ → ℤ
inner_product [] us = pos 0
inner_product (w ∷ ws) [] = pos 0
inner_product (w ∷ ws) (u ∷ us) = w *ℤ u +ℤ inner_product ws us

-- s̃, the scaled predicted sample value at t ≥ 1, from σ, W and U
unfoldable pub scaled_by : Predictor → SampleKind → ℤ → List ℤ → List ℤ → ℤ
scaled_by p k sum ws us =
    let register = wrapped p.register (inner_product ws us +ℤ pos (2 ^ p.omega) *ℤ (sum -ℤ pos 4 *ℤ smid k)) in
    clip (floor_div register (2 ^ (p.omega + 1)) +ℤ pos 2 *ℤ smid k +ℤ pos 1) (pos 2 *ℤ smin k) (pos 2 *ℤ smax k +ℤ pos 1)

-- s̃ at row y, column x, which isn't the first place of its band, with weights ws
unfoldable pub scaled_there : Predictor → Image → ℕ → ℕ → ℕ → List ℤ → ℤ
scaled_there p c z y x ws = scaled_by p c.kind (local_sum p c z y x) ws (difference_vector p c z y x)

-- W(t + 1) from W(t)
unfoldable pub next_weights : Predictor → Image → ℕ → ℕ → List ℤ → List ℤ
next_weights p c z t ws =
    let y = t / c.shape.columns in
    let x = t % c.shape.columns in
    let error = pos 2 *ℤ sample_at c z y x -ℤ scaled_there p c z y x ws in
    updated_weights p.omega (step_exponent p c.shape.columns c.kind.bits t) (int_lt error (pos 0)) ws (difference_vector p c z y x)

-- W(t), the weight vector; the initial weights are those at t = 1, and at t = 0, where no weight is used
unfoldable pub weight_vector : Params → Image → ℕ → ℕ → List ℤ
weight_vector p c z zero = start_weights p z
weight_vector p c z (suc zero) = start_weights p z
weight_vector p c z (suc (suc t)) = next_weights (predictor_of p) c z (suc t) (weight_vector p c z (suc t))

-- s̃ at t = 0: twice the sample at t = 0 of the previous band, or 2·s_mid if P or z is 0
unfoldable pub first_scaled : Predictor → Image → ℕ → ℤ
first_scaled p c z = if p.previous == 0 || z == 0 then pos 2 *ℤ smid c.kind else pos 2 *ℤ sample_at c (z - 1) 0 0

-- s̃ at raster index t
unfoldable pub scaled_prediction : Params → Image → ℕ → ℕ → ℤ
scaled_prediction p c z zero = first_scaled (predictor_of p) c z
scaled_prediction p c z (suc t) =
    scaled_there (predictor_of p) c z (suc t / c.shape.columns) (suc t % c.shape.columns) (weight_vector p c z (suc t))

-- ŝ, the predicted sample value at raster index t
unfoldable pub predicted_value : Params → Image → ℕ → ℕ → ℤ
predicted_value p c z t = floor_div (scaled_prediction p c z t) 2
