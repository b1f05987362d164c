-- One step of a wavefront: what it makes of what was there, in each lane.
use Rattle.std.specs.Prelude.{ℕ, ◌≡◌, ◌≢◌, ◌+◌, ◌-◌, ◌*◌, ◌^◌, ◌<◌, ℤ, pos, ◌+ℤ◌, ◌-ℤ◌, ◌*ℤ◌, int_le, unsigned_abs, List, length}
use Rattle.lanes.specs.Lanes.{place}
use Rattle.band_lanes.specs.Rows.{weights_of}
use Rattle.sample_prediction.specs.Arithmetic.{floor_div, clip}
use Rattle.sample_prediction.specs.Mapping.{unmapped_between}
use Rattle.sample_prediction.specs.Prediction.{inner_product}
use Rattle.sample_prediction.specs.Weights.{updated_weights}
use Rattle.wave_inversion.specs.Wave.{Lower, sum_at, component_in}
use Rattle.wave_inversion.specs.WaveForms.{WaveForm}
use Rattle.predict_core.specs.BandLanes.{IsPart}

-- the offset of a lane, from the predicted central difference, the local sum of offsets, and the mapped residual
abbrev pub offset_by : ℤ → ℤ → ℤ → ℤ → ℤ
offset_by greatest part sum residual =
    unmapped_between (pos 0) greatest (clip (floor_div (part +ℤ sum) 2 +ℤ pos 1) (pos 0) (pos 2 *ℤ greatest +ℤ pos 1)) (unsigned_abs residual)

-- from the rows and weights before step k to those after it, by components in rows as the weights are, of which the first q are used
pub record IsStepped (q : ℕ) (f : WaveForm) (k : ℕ) (above : List (List ℤ)) (lower : Lower) (numbers own weights numbers' own' weights' : List (List ℤ)) : Type 0 where
  pub directions : List (List ℤ)
  pub components : List (List ℤ)
  pub part : ℕ → ℤ
  pub north : (b : ℕ) → b < 8 → place directions 0 b ≡ pos 4 *ℤ place above k b -ℤ sum_at f.column numbers above k b
  pub west : (b : ℕ) → b < 8 → place directions 1 b ≡ pos 4 *ℤ place numbers (k - 1) b -ℤ sum_at f.column numbers above k b
  pub north_west : (b : ℕ) → b < 8 → place directions 2 b ≡ pos 4 *ℤ place above (k - 1) b -ℤ sum_at f.column numbers above k b
  pub long : length components ≡ 9
  pub even : (c b : ℕ) → c < q → b < 8 → place components c (2 * b) ≡ component_in f.reduced f.previous directions lower own k (2 * c) b
  pub odd : (c b : ℕ) → c < q → b < 8 → place components c (2 * b + 1) ≡ component_in f.reduced f.previous directions lower own k (2 * c + 1) b
  pub predicted : (b : ℕ) → b < 8 → IsPart f.bits (floor_div (inner_product (weights_of q b weights) (weights_of q b components)) (2 ^ f.omega)) (part b)
  pub number : (b : ℕ) → b < 8 → place numbers' k b ≡ offset_by f.greatest (part b) (sum_at f.column numbers above k b) (place numbers k b)
  pub central : (b : ℕ) → b < 8 → place own' k b ≡ pos 4 *ℤ place numbers' k b -ℤ sum_at f.column numbers above k b
  pub updated : (b : ℕ) → b < 8
      → weights_of q b weights' ≡ updated_weights f.omega f.exponent (int_le (place own' k b) (part b)) (weights_of q b weights) (weights_of q b components)
  pub numbers_kept : (i b : ℕ) → i ≢ k → place numbers' i b ≡ place numbers i b
  pub own_kept : (i b : ℕ) → i ≢ k → place own' i b ≡ place own i b
