-- The sign of a prediction's error, which the predicted central difference determines (CCSDS 123.0-B-1, "Prediction Calculation").
use Rattle.std.specs.Prelude.{ℕ, ◌≡◌, ◌+◌, ◌*◌, ◌^◌, ◌<◌, ◌≤◌, ℤ, pos, ◌+ℤ◌, ◌-ℤ◌, ◌*ℤ◌, int_lt, int_le, unsigned_abs}
use Rattle.header_bits.specs.declared.params.Params.{Params}
use Rattle.header_bits.specs.Lawful.{IsLawful}
use Rattle.cube_core.specs.Kind.{smin, smid, smax}
use Rattle.cube_core.specs.Image.{Image, IsCube, IsPlace, sample_at}
use Rattle.sample_prediction.specs.Arithmetic.{floor_div, clip}
use Rattle.sample_prediction.specs.Predictor.{predictor_of}
use Rattle.sample_prediction.specs.LocalSum.{local_sum}
use Rattle.sample_prediction.specs.Differences.{central_difference, difference_vector}
use Rattle.sample_prediction.specs.Prediction.{inner_product, weight_vector, scaled_prediction}

-- d̂, the predicted central difference at row y, column x: the inner product of W and U over 2^Ω, rounded down
abbrev pub predicted_difference : Params → Image → ℕ → ℕ → ℕ → ℤ
predicted_difference p c z y x =
    floor_div (inner_product (weight_vector p c z (y * c.shape.columns + x)) (difference_vector (predictor_of p) c z y x)) (2 ^ p.omega)

-- lawful parameters, a cube of their shape and kind, and a place of it that isn't the first of its band
pub record IsLaterPlace (p : Params) (c : Image) (z y x : ℕ) : Type 0 where
  pub lawful : IsLawful p
  pub cube : IsCube c
  pub shape : c.shape ≡ p.shape
  pub kind : c.kind ≡ p.kind
  pub place : IsPlace c.shape z y x
  pub later : 0 < y + x

-- A register of 46 bits or more never wraps: s̃ is ⌊(d̂ + σ - 4·s_mid) / 2⌋ + 2·s_mid + 1, clipped.
abbrev pub UnwrappedPrediction : Type 0
UnwrappedPrediction =
    (p : Params) (c : Image) (z y x : ℕ) → IsLaterPlace p c z y x → 46 ≤ p.register
    → scaled_prediction p c z (y * c.shape.columns + x)
    ≡ clip
    (floor_div (predicted_difference p c z y x +ℤ (local_sum (predictor_of p) c z y x -ℤ pos 4 *ℤ smid c.kind)) 2 +ℤ pos 2 *ℤ smid c.kind +ℤ pos 1)
    (pos 2 *ℤ smin c.kind)
    (pos 2 *ℤ smax c.kind +ℤ pos 1)

-- With such a register 2·s - s̃ is negative exactly if d is at most d̂, whether or not s̃ was clipped.
abbrev pub ErrorSign : Type 0
ErrorSign =
    (p : Params) (c : Image) (z y x : ℕ) → IsLaterPlace p c z y x → 46 ≤ p.register
    → int_lt (pos 2 *ℤ sample_at c z y x -ℤ scaled_prediction p c z (y * c.shape.columns + x)) (pos 0)
    ≡ int_le (central_difference (predictor_of p) c z y x) (predicted_difference p c z y x)

-- |d̂| is at most 18·2^20, so d̂ fits in 32 bits.
abbrev pub DifferenceBound : Type 0
DifferenceBound =
    (p : Params) (c : Image) (z y x : ℕ) → IsLaterPlace p c z y x → unsigned_abs (predicted_difference p c z y x) ≤ 18 * 2 ^ 20
