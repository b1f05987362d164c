-- A piece of a row of at most eight bands that is inverted as a wavefront: the form for it, and what is found.
use Rattle.std.specs.Prelude.{ℕ, ◌≡◌, ◌+◌, ◌-◌, ◌*◌, ◌^◌, ◌<◌, ◌≤◌, ℤ, pos, ◌+ℤ◌, min, nat_lt, List, [], length, take, slice_index, slice_index_or, if◌then◌else◌}
use Rattle.header_bits.specs.declared.params.Params.{Params}
use Rattle.cube_core.specs.Kind.{smin, smax}
use Rattle.cube_core.specs.Image.{Image}
use Rattle.lanes.specs.Lanes.{place}
use Rattle.band_lanes.specs.Rows.{weights_of}
use Rattle.sample_prediction.specs.Bounds.{AllWithin}
use Rattle.sample_prediction.specs.Prediction.{weight_vector}
use Rattle.sample_prediction.specs.Predictor.{component_count}
use Rattle.sample_prediction.specs.Weights.{step_exponent}
use Rattle.sample_prediction.specs.declared.predictor.Predictor.{Predictor}
use Rattle.wave_inversion.specs.declared.found.Found.{Found}
use Rattle.predict_core.specs.Following.{PredictorState}
use Rattle.wave_inversion.specs.Inversion.{IsInverting, band_at}
use Rattle.predict_core.specs.Offsets.{number_at}
use Rattle.predict_core.specs.Largest.{NeverWraps}
use Rattle.wave_inversion.specs.WaveForms.{WaveForm}
use Rattle.wave_inversion.specs.WaveLanes.{column_at, first_column, first_step}

-- the form is that of a predictor in row y, where one exponent holds from end to end; its register never wraps
pub record IsFormOf (f : WaveForm) (m : Predictor) (c : Image) (y : ℕ) : Type 0 where
  pub register : (z : ℕ) → NeverWraps m c.kind.bits (component_count m z)
  pub enough : (z : ℕ) → component_count m z ≤ 2 * f.pairs
  pub reduced : f.reduced ≡ m.reduced
  pub column : f.column ≡ m.column
  pub previous : f.previous ≡ m.previous
  pub greatest : smin c.kind +ℤ f.greatest ≡ smax c.kind
  pub omega : f.omega ≡ m.omega
  pub bits : f.bits ≡ c.kind.bits
  pub exponent : (x : ℕ) → x < c.shape.columns → f.exponent ≡ step_exponent m c.shape.columns c.kind.bits (y * c.shape.columns + x)

-- at most eight bands stand as a wavefront does before step 8: each a column to the left of the one before, or at column 1
abbrev pub StandAsWave : List PredictorState → ℕ → ℕ → ℕ → ℕ → Type 0
StandAsWave bands first columns y origin = (b : ℕ) → b < 8 → first + b < length bands → (band_at bands (first + b)).t ≡ y * columns + first_column origin b

-- how many lanes have a band
abbrev pub lane_count : List PredictorState → ℕ → ℕ
lane_count bands first = min 8 (length bands - first)

-- each of at most eight bands stands in a row, or at its end
abbrev pub StandInRow : List PredictorState → ℕ → ℕ → ℕ → Type 0
StandInRow bands first columns y = (b : ℕ) → b < 8 → first + b < length bands → (y * columns ≤ (band_at bands (first + b)).t) × ((band_at bands (first + b)).t ≤ y * columns + columns)

-- how many lanes come to the end of the row before step `last`: the first ones, one after another
abbrev pub ended : ℕ → ℕ → ℕ → ℕ
ended columns origin last = origin + last - (columns + 7)

-- the column that a lane has come to before step `last`, or the end of the row
abbrev pub end_column : ℕ → ℕ → ℕ → ℕ → ℕ
end_column columns origin last b = min columns (column_at origin last b)

-- the rows that hold the weights of a lane there: some that were kept for it, if it has come to the end of the row before
abbrev pub rows_at_end : ℕ → (ℕ → List (List ℤ)) → List (List ℤ) → ℕ → List (List ℤ)
rows_at_end lanes ends weights b = if nat_lt b lanes then ends b else weights

-- the offset that lane b has found in step i
abbrev pub offset_in : List (List ℕ) → ℕ → ℕ → ℕ
offset_in offsets b i = slice_index (slice_index_or offsets b []) i

-- the offsets are those of rows, by step; the first 2·q weights of a lane are those in the rows where it ends
pub record AreCollected (q lanes : ℕ) (numbers : List (List ℤ)) (ends : ℕ → List (List ℤ)) (weights : List (List ℤ)) (found : Found) : Type 0 where
  pub offsets_are : (i b : ℕ) → i < 64 → b < 8 → place numbers i b ≡ pos (offset_in found.offsets b i)
  pub weights_are : (b : ℕ) → b < 8 → take (2 * q) (slice_index_or found.weights b []) ≡ weights_of q b (rows_at_end lanes ends weights b)

-- the offsets of each band are found from its first step to step `last`, up to the last column, and its weights after them, among the first 2·q
pub record AreFound (q : ℕ) (bands : List PredictorState) (c : Image) (first y origin last : ℕ) (found : Found) : Type 0 where
  pub within : (b i : ℕ) → b < 8 → i < 64 → offset_in found.offsets b i < 2 ^ c.kind.bits
  pub enough : (b : ℕ) → b < 8 → first + b < length bands → length (band_at bands (first + b)).weights ≤ 2 * q
  pub weights_in : (b : ℕ) → b < 8 → first + b < length bands → AllWithin (2 ^ ((band_at bands (first + b)).predictor.omega + 2)) (take (2 * q) (slice_index_or found.weights b []))
  pub offsets_at : (p : Params) (d : Image) → IsInverting p c d bands → (b i : ℕ) → b < 8 → first + b < length bands → first_step origin b ≤ i → i < last
      → column_at origin i b < c.shape.columns → offset_in found.offsets b i ≡ number_at d (first + b) y (column_at origin i b)
  pub weights_at : (p : Params) (d : Image) → IsInverting p c d bands → (b : ℕ) → b < 8 → first + b < length bands
      → take (length (band_at bands (first + b)).weights) (slice_index_or found.weights b [])
      ≡ weight_vector p d (first + b) (y * c.shape.columns + end_column c.shape.columns origin last b)
