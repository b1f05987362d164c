-- At most eight bands in a wavefront over a row of an image d: in step k, lane b is band `first + b`, if there is one, at column `origin + k - 7 - b`. A lane that isn't at a
-- column yet, or is beyond its last one, holds numbers without meaning.
use Rattle.std.specs.Prelude.{ℕ, ◌≡◌, ◌+◌, ◌-◌, ◌*◌, ◌<◌, ◌≤◌, nat_le, min, ℤ, pos, ◌+ℤ◌, List, length, take, if◌then◌else◌}
use Rattle.header_bits.specs.declared.params.Params.{Params}
use Rattle.cube_core.specs.Kind.{smin, smax}
use Rattle.cube_core.specs.Image.{Image, IsCube}
use Rattle.lanes.specs.Lanes.{place}
use Rattle.band_lanes.specs.Rows.{weights_of}
use Rattle.sample_prediction.specs.Chain.{AreWeightsAt}
use Rattle.sample_prediction.specs.Differences.{central_difference}
use Rattle.sample_prediction.specs.Residual.{mapped_residual}
use Rattle.sample_prediction.specs.declared.predictor.Predictor.{Predictor}
use Rattle.predict_core.specs.declared.settings.Settings.{Settings}
use Rattle.predict_core.specs.Following.{PredictorState}
use Rattle.predict_core.specs.BandLanes.{HasWeights}
use Rattle.wave_inversion.specs.Inversion.{band_at}
use Rattle.predict_core.specs.Offsets.{number_at}
use Rattle.predict_core.specs.Largest.{NeverWraps}
use Rattle.predict_core.specs.RunChains.{AreStepsThere}
use Rattle.wave_inversion.specs.Wave.{Lower}
use Rattle.wave_inversion.specs.WaveForms.{WaveForm}

-- the column of lane b in step k
abbrev pub column_at : ℕ → ℕ → ℕ → ℕ
column_at origin k b = origin + k - (7 + b)

-- the column whose number a row has for column x: after its last number comes this once more, which is the north-east there
abbrev pub column_within : ℕ → ℕ → ℕ
column_within columns x = min x (columns - 1)

-- where each band has come to before step 8: to column 1 at least
abbrev pub first_column : ℕ → ℕ → ℕ
first_column origin b = origin - b + 1

-- the step at which a lane is at that column
abbrev pub first_step : ℕ → ℕ → ℕ
first_step origin b = 8 + (b - origin)

-- the central difference of the band so many below band z, or 0 where there is no such band
abbrev pub lower_central : Predictor → Image → ℕ → ℕ → ℕ → ℕ → ℤ
lower_central m d below z y x = if nat_le below z then central_difference m d (z - below) y x else pos 0

-- the constants of the bands, and what doesn't change from step 8 to step `last`: the row above, the central differences of the previous bands below, and the form
pub record AreLanes (q : ℕ) (f : WaveForm) (p : Params) (s : ℕ → Settings) (d : Image) (first y origin last : ℕ) (above : List (List ℤ)) (lower : Lower) : Type 0 where
  pub cube : IsCube d
  pub row : (0 < y) × (y < d.shape.rows)
  pub most : last ≤ 63
  pub few : q ≤ 9
  pub bands : (b : ℕ) → b < 8 → (s b).band ≡ first + b
  pub predictor : (b : ℕ) → b < 8 → (s b).predictor ≡ (s 0).predictor
  pub columns : (b : ℕ) → b < 8 → d.shape.columns ≡ (s b).columns
  pub kind : (b : ℕ) → b < 8 → d.kind ≡ (s b).range.kind
  pub enough : (b : ℕ) → b < 8 → (s b).count ≤ 2 * q
  pub register : (b : ℕ) → b < 8 → NeverWraps (s b).predictor d.kind.bits (s b).count
  pub reduced : f.reduced ≡ (s 0).predictor.reduced
  pub column : f.column ≡ (s 0).predictor.column
  pub previous : f.previous ≡ (s 0).predictor.previous
  pub greatest : smin d.kind +ℤ f.greatest ≡ smax d.kind
  pub steps : (b k : ℕ) → b < 8 → column_at origin k b < d.shape.columns → AreStepsThere (s b) d f.omega f.bits f.exponent y (column_at origin k b)
  pub north : (i b : ℕ) → i ≤ last → b < 8 → first + b < d.shape.bands → 7 + b ≤ origin + i → column_at origin i b ≤ d.shape.columns
      → place above i b ≡ pos (number_at d (first + b) (y - 1) (column_within d.shape.columns (column_at origin i b)))
  pub near : (i b : ℕ) → 1 ≤ i → i < last → b < 8 → 8 ≤ f.previous + b → 0 < column_at (origin + 8) i b → column_at (origin + 8) i b < d.shape.columns
      → place lower.near i b ≡ lower_central (s 0).predictor d 8 (first + b) y (column_at (origin + 8) i b)
  pub beside : (i b : ℕ) → 1 ≤ i → i < last → b < 8 → 7 < f.previous → 0 < column_at origin i b → column_at origin i b < d.shape.columns
      → place lower.beside i b ≡ lower_central (s 0).predictor d 8 (first + b) y (column_at origin i b)
  pub far : (i b : ℕ) → 1 ≤ i → i < last → b < 8 → 7 < f.previous → 16 ≤ f.previous + b → 0 < column_at (origin + 8) i b → column_at (origin + 8) i b < d.shape.columns
      → place lower.far i b ≡ lower_central (s 0).predictor d 16 (first + b) y (column_at (origin + 8) i b)

-- what has been found before step k in the first n lanes, which have begun: the offsets of the bands up to there, from which their central differences come, and
-- the weights, each as far as the end of the row; the residuals from there on are as they were, in all lanes
pub record AreInStep (q : ℕ) (p : Params) (s : ℕ → Settings) (d : Image) (first y origin last n k : ℕ) (numbers own weights : List (List ℤ)) : Type 0 where
  pub offsets : (i b : ℕ) → 7 ≤ i → i < k → b < n → first + b < d.shape.bands → 7 + b ≤ origin + i → column_at origin i b < d.shape.columns
      → place numbers i b ≡ pos (number_at d (first + b) y (column_at origin i b))
  pub residuals : (i b : ℕ) → k ≤ i → i < last → b < 8 → first + b < d.shape.bands → 0 < column_at origin i b → column_at origin i b < d.shape.columns
      → place numbers i b ≡ pos (mapped_residual p d (first + b) (y * d.shape.columns + column_at origin i b))
  pub centrals : (i b : ℕ) → b < i → i < k → b < n → first + b < d.shape.bands → 0 < column_at origin i b → column_at origin i b < d.shape.columns
      → place own i b ≡ central_difference (s 0).predictor d (first + b) y (column_at origin i b)
  pub weights_at : (b : ℕ) → b < n → first + b < d.shape.bands → column_at origin k b ≤ d.shape.columns
      → AreWeightsAt p (s b).predictor d (first + b) (y * d.shape.columns + column_at origin k b) (take (s b).count (weights_of q b weights))

-- what is known before step 8 of lanes that begin at column 1, one after another: the offset at column 0, and the weights there
pub record AreToBegin (q : ℕ) (p : Params) (s : ℕ → Settings) (d : Image) (first y : ℕ) (bands : List PredictorState) (numbers : List (List ℤ)) : Type 0 where
  pub many : length bands ≡ d.shape.bands
  pub offset : (b : ℕ) → b < 8 → first + b < d.shape.bands → place numbers (7 + b) b ≡ pos (number_at d (first + b) y 0)
  pub weights_at : (b : ℕ) → b < 8 → first + b < d.shape.bands → (rows : List (List ℤ)) → HasWeights q b (band_at bands (first + b)) rows
      → AreWeightsAt p (s b).predictor d (first + b) (y * d.shape.columns + 1) (take (s b).count (weights_of q b rows))
