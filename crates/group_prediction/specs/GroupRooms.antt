-- What a group of bands needs to go side by side, and what it has found before each band takes its part.
use Rattle.std.specs.Prelude.{ℕ, ◌≡◌, ◌+◌, ◌*◌, ◌^◌, ◌≤◌, ℤ, false, List, [], length, take, slice_index_or}
use Rattle.std.specs.List.{AllByRecursion}
use Rattle.cube_core.specs.Image.{Image}
use Rattle.band_lanes.specs.Rows.{weights_of}
use Rattle.sample_prediction.specs.declared.predictor.Predictor.{Predictor}
use Rattle.sample_prediction.specs.Predictor.{component_count}
use Rattle.sample_prediction.specs.Bounds.{AllWithin}
use Rattle.predict_core.specs.declared.settings.Settings.{Settings}
use Rattle.group_prediction.specs.declared.band_lines.BandLines.{BandLines}
use Rattle.predict_core.specs.Following.{PredictorState}
use Rattle.predict_core.specs.ImageRuns.{ImageRun, IsFirstLater}
use Rattle.group_prediction.specs.GroupPieces.{IsRunNext}
use Rattle.predict_core.specs.BandLanes.{FitsNarrow}
use Rattle.group_prediction.specs.GroupLines.{HoldsSums, no_lines}
use Rattle.predict_core.specs.RunChains.{IsFollowed}

-- the next places of each band are those of a run; all bands have the same parameters; lanes of 16 bits are exact for them, and q pairs
-- hold the components of each
pub record AreReady (q : ℕ) (bands : List PredictorState) (r : ImageRun) : Type 0 where
  pub predictor : Predictor
  pub each : AllByRecursion (λ b. (b.predictor ≡ predictor) × IsRunNext b r) bands
  pub narrow : FitsNarrow predictor r.image.kind.bits
  pub wide : predictor.column ≡ false → 2 ≤ r.image.shape.columns
  pub some : 1 ≤ r.count
  pub first : IsFirstLater r.y r.x r.first
  pub enough : (z : ℕ) → component_count predictor z ≤ 2 * q

-- these are the constants of a band's predictor
pub record AreConstants (s : Settings) (b : PredictorState) (c : Image) : Type 0 where
  pub predictor : s.predictor ≡ b.predictor
  pub band : s.band ≡ b.band
  pub kind : s.range.kind ≡ b.kind
  pub columns : s.columns ≡ c.shape.columns

-- in lane k are the weights of a band after a run, and in line k their predicted differences; its local sums are known
pub record IsPredicted (q k : ℕ) (b : PredictorState) (r : ImageRun) (bands : List BandLines) (weights parts : List (List ℤ)) : Type 0 where
  pub long : length b.weights ≡ component_count b.predictor b.band
  pub sums : HoldsSums b.predictor b.band r (slice_index_or bands k no_lines).sums
  pub within : AllWithin (2 ^ (b.predictor.omega + 2)) (weights_of q k weights)
  pub begun : List ℤ
  pub begun_is : take (length b.weights) begun ≡ b.weights
  pub followed : (s : Settings) → AreConstants s b r.image → IsFollowed s r.image r.y r.x r.first begun r.count (weights_of q k weights) (slice_index_or parts k [])
