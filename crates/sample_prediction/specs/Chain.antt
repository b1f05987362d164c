-- The predictions of a run, place after place, from the weights of an image.
use Rattle.std.specs.Prelude.{ℕ, ◌≡◌, ℤ, pos, ◌+ℤ◌, ◌-ℤ◌, ◌*ℤ◌, List}
use Rattle.header_bits.specs.declared.params.Params.{Params}
use Rattle.cube_core.specs.Kind.{SampleKind, smin, smid, smax}
use Rattle.cube_core.specs.Image.{Image}
use Rattle.sample_prediction.specs.Arithmetic.{floor_div, clip}
use Rattle.sample_prediction.specs.declared.predictor.Predictor.{Predictor}
use Rattle.sample_prediction.specs.Predictor.{predictor_of}
use Rattle.sample_prediction.specs.Prediction.{weight_vector}

-- s̃ from the predicted central difference d̂ and the local sum σ, in a register that doesn't wrap
abbrev pub scaled_by_difference : SampleKind → ℤ → ℤ → ℤ
scaled_by_difference k predicted sum =
    clip (floor_div (predicted +ℤ (sum -ℤ pos 4 *ℤ smid k)) 2 +ℤ pos 2 *ℤ smid k +ℤ pos 1) (pos 2 *ℤ smin k) (pos 2 *ℤ smax k +ℤ pos 1)

-- the predictor's parameters are those of p, and the weights are those of the image at raster index t of band z
pub record AreWeightsAt (p : Params) (made : Predictor) (c : Image) (z t : ℕ) (ws : List ℤ) : Type 0 where
  pub predictor : made ≡ predictor_of p
  pub weights : ws ≡ weight_vector p c z t
