-- Predicting a run whose samples are known, place after place: what it needs, and how far it has come.
use Rattle.std.specs.Prelude.{ℕ, ◌≡◌, ◌+◌, ◌*◌, ◌^◌, ◌<◌, ◌≤◌, Bool, false, ℤ, pos, unsigned_abs, List, take, slice_index_or}
use Rattle.header_bits.specs.declared.params.Params.{Params}
use Rattle.cube_core.specs.Image.{Image, IsPlace}
use Rattle.predict_core.specs.declared.differences.room.Quad.{Quad}
use Rattle.predict_core.specs.declared.settings.Settings.{Settings}
use Rattle.sample_prediction.specs.LocalSum.{local_sum}
use Rattle.sample_prediction.specs.Bounds.{AllWithin}
use Rattle.sample_prediction.specs.Residual.{run_residuals}
use Rattle.sample_prediction.specs.Weights.{step_exponent}
use Rattle.sample_prediction.specs.Prediction.{weight_vector, scaled_prediction}
use Rattle.predict_core.specs.ImageRuns.{ImageRun, IsRunOf}
use Rattle.predict_core.specs.Rooms.{IsRoom, quads_of}
use Rattle.sample_prediction.specs.Chain.{scaled_by_difference, AreWeightsAt}

-- `sums`, `own` and `quads` are those of `count` places from row y, column x on, n weights are enough for the band, and if `wraps` is false, R ≥ 46
pub record CanFollow (q n : ℕ) (wraps : Bool) (s : Settings) (c : Image) (y x count : ℕ) (sums own : List ℤ) (quads : List Quad) : Type 0 where
  pub few : n ≤ 18
  pub enough : s.count ≤ n
  pub needed : q ≡ quads_of s.count
  pub register : wraps ≡ false → 46 ≤ s.predictor.register
  pub place : IsPlace c.shape s.band y x
  pub columns : c.shape.columns ≡ s.columns
  pub kind : c.kind ≡ s.range.kind
  pub within : count ≤ 64
  pub inside : x + count ≤ c.shape.columns
  pub room : IsRoom s.predictor c s.band y x count s.count sums own quads

-- Ω and D are the band's, and `exponent` is ρ at row y, column x
pub record AreStepsThere (s : Settings) (c : Image) (omega bits : ℕ) (exponent : ℤ) (y x : ℕ) : Type 0 where
  pub omega_is : omega ≡ s.predictor.omega
  pub bits_are : bits ≡ s.range.bits
  pub exponent_is : exponent ≡ step_exponent s.predictor c.shape.columns c.kind.bits (y * c.shape.columns + x)

-- if `begun` are the weights at place `first` of a run, `ws` are those at place `at`, and `parts` gives s̃ at each place between
pub record IsFollowed (s : Settings) (c : Image) (y x first : ℕ) (begun : List ℤ) (at : ℕ) (ws parts : List ℤ) : Type 0 where
  pub weights : (p : Params) → AreWeightsAt p s.predictor c s.band (y * c.shape.columns + (x + first)) (take s.count begun)
      → take s.count ws ≡ weight_vector p c s.band (y * c.shape.columns + (x + at))
  pub predicted : (p : Params) → AreWeightsAt p s.predictor c s.band (y * c.shape.columns + (x + first)) (take s.count begun) → (i : ℕ) → first ≤ i → i < at
      → scaled_prediction p c s.band (y * c.shape.columns + (x + i)) ≡ scaled_by_difference c.kind (slice_index_or parts i (pos 0))
      (local_sum s.predictor c s.band y (x + i))
  pub small : (i : ℕ) → first ≤ i → i < at → unsigned_abs (slice_index_or parts i (pos 0)) ≤ 18 * 2 ^ 20

-- a run is one of the band, and the weights at its first place are in their range
pub record CanPredict (s : Settings) (r : ImageRun) (ws : List ℤ) : Type 0 where
  pub run : IsRunOf s.band r
  pub columns : r.image.shape.columns ≡ s.columns
  pub kind : r.image.kind ≡ s.range.kind
  pub weights_in : AllWithin (2 ^ (s.predictor.omega + 2)) ws

-- the mapped residuals of n places from row y, column x on, and the weights after them
pub record HasPredicted (s : Settings) (c : Image) (y x n : ℕ) (old new : List ℤ) (rs : List ℕ) : Type 0 where
  pub bound : (i : ℕ) → i < n → slice_index_or rs i 0 < 2 ^ c.kind.bits
  pub residuals : (p : Params) → AreWeightsAt p s.predictor c s.band (y * c.shape.columns + x) (take s.count old)
      → take n rs ≡ run_residuals p c s.band (y * c.shape.columns + x) n
  pub weights : (p : Params) → AreWeightsAt p s.predictor c s.band (y * c.shape.columns + x) (take s.count old)
      → take s.count new ≡ weight_vector p c s.band (y * c.shape.columns + x + n)
  pub within : AllWithin (2 ^ (s.predictor.omega + 2)) new
