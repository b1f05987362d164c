-- What a group of bands needs to go side by side in lanes of 32 bits, and what it has found before each band takes its part.
use Rattle.std.specs.Prelude.{ℕ, ◌≡◌, ◌+◌, ◌*◌, ◌^◌, ◌<◌, ◌≤◌, ℤ, unsigned_abs, false, List, [], length, take, slice_index_or}
use Rattle.std.specs.List.{AllByRecursion}
use Rattle.lanes.specs.Lanes.{place}
use Rattle.band_lanes.specs.Fours.{column_of}
use Rattle.sample_prediction.specs.declared.predictor.Predictor.{Predictor}
use Rattle.sample_prediction.specs.Predictor.{component_count}
use Rattle.sample_prediction.specs.Bounds.{AllWithin}
use Rattle.predict_core.specs.declared.settings.Settings.{Settings}
use Rattle.predict_core.specs.Following.{PredictorState}
use Rattle.predict_core.specs.ImageRuns.{ImageRun, IsFirstLater}
use Rattle.group_prediction.specs.GroupPieces.{IsRunNext}
use Rattle.group_prediction.specs.GroupLines.{HoldsSums}
use Rattle.group_prediction.specs.GroupRooms.{AreConstants}
use Rattle.predict_core.specs.Largest.{NeverWraps}
use Rattle.predict_core.specs.RunChains.{IsFollowed}

-- the next places of each band are those of a run; all bands have the same parameters; no register of theirs wraps, and q pairs
-- hold the components of each
pub record AreLongReady (q : ℕ) (bands : List PredictorState) (r : ImageRun) : Type 0 where
  pub predictor : Predictor
  pub each : AllByRecursion (λ b. (b.predictor ≡ predictor) × IsRunNext b r) bands
  pub register : (z : ℕ) → NeverWraps predictor r.image.kind.bits (component_count predictor z)
  pub wide : predictor.column ≡ false → 2 ≤ r.image.shape.columns
  pub some : 1 ≤ r.count
  pub first : IsFirstLater r.y r.x r.first
  pub enough : (z : ℕ) → component_count predictor z ≤ 2 * q

-- in lane k are the weights of a band after a run, and in line k their predicted differences; its local sums are known
pub record IsLongPredicted (q k : ℕ) (b : PredictorState) (r : ImageRun) (sums : List ℤ) (weights parts : List (List ℤ)) : Type 0 where
  pub long : length b.weights ≡ component_count b.predictor b.band
  pub sums_are : HoldsSums b.predictor b.band r sums
  pub within : AllWithin (2 ^ (b.predictor.omega + 2)) (column_of (2 * q) k weights)
  pub small : (i : ℕ) → r.first ≤ i → i < r.count → unsigned_abs (place parts k i) ≤ 18 * 2 ^ 20
  pub begun : List ℤ
  pub begun_is : take (length b.weights) begun ≡ b.weights
  pub followed : (s : Settings) → AreConstants s b r.image → IsFollowed s r.image r.y r.x r.first begun r.count (column_of (2 * q) k weights) (slice_index_or parts k [])
