-- A band in a lane of the vectors: what its lane holds of a piece.
use Rattle.std.specs.Prelude.{ℕ, ◌≡◌, ◌+◌, ◌-◌, ◌*◌, ◌^◌, ◌<◌, ◌≤◌, ℤ, pos, List, [], ◌++◌, length, take, replicate, slice_index_or}
use Rattle.cube_core.specs.Image.{Image, IsCube, IsPlace}
use Rattle.lanes.specs.Lanes.{lane}
use Rattle.band_lanes.specs.declared.pairs.Pairs.{Pairs}
use Rattle.band_lanes.specs.Rows.{components_of}
use Rattle.predict_core.specs.declared.settings.Settings.{Settings}
use Rattle.predict_core.specs.Following.{PredictorState}
use Rattle.predict_core.specs.Largest.{NeverWraps}
use Rattle.band_lanes.specs.Fours.{row_components, column_of}
use Rattle.band_lanes.specs.declared.four.rows.Rows.{Rows}
use Rattle.sample_prediction.specs.Bounds.{AllWithin}
use Rattle.sample_prediction.specs.Predictor.{component_count}
use Rattle.sample_prediction.specs.Differences.{central_difference, difference_vector}

-- lane b holds d and U of a band for each of the `count` places from row y, column x on, except at t = 0, U in the first q pairs with zeros after it;
-- 16 bits are enough for them, and the register never wraps
pub record IsLane (q b : ℕ) (s : Settings) (c : Image) (y x count : ℕ) (own : List (List ℤ)) (pairs : List Pairs) : Type 0 where
  pub cube : IsCube c
  pub place : IsPlace c.shape s.band y x
  pub columns : c.shape.columns ≡ s.columns
  pub kind : c.kind ≡ s.range.kind
  pub inside : x + count ≤ c.shape.columns
  pub few : q ≤ 9
  pub enough : s.count ≤ 2 * q
  pub register : NeverWraps s.predictor c.kind.bits s.count
  pub omega_in : s.predictor.omega ≤ 13
  pub bits : c.kind.bits ≤ 13
  pub central : (i : ℕ) → i < count → 0 < y + (x + i) → lane (slice_index_or own i []) b ≡ central_difference s.predictor c s.band y (x + i)
  pub vector : (i : ℕ) → i < count → 0 < y + (x + i)
      → components_of q b pairs i ≡ difference_vector s.predictor c s.band y (x + i) ++ replicate (2 * q - s.count) (pos 0)

-- the same in lanes of 32 bits, of four bands: U in the first 2·q rows
pub record IsLongLane (q b : ℕ) (s : Settings) (c : Image) (y x count : ℕ) (own : List (List ℤ)) (rows : List Rows) : Type 0 where
  pub cube : IsCube c
  pub place : IsPlace c.shape s.band y x
  pub columns : c.shape.columns ≡ s.columns
  pub kind : c.kind ≡ s.range.kind
  pub inside : x + count ≤ c.shape.columns
  pub few : q ≤ 9
  pub enough : s.count ≤ 2 * q
  pub register : NeverWraps s.predictor c.kind.bits s.count
  pub central : (i : ℕ) → i < count → 0 < y + (x + i) → lane (slice_index_or own i []) b ≡ central_difference s.predictor c s.band y (x + i)
  pub vector : (i : ℕ) → i < count → 0 < y + (x + i)
      → row_components (2 * q) b rows i ≡ difference_vector s.predictor c s.band y (x + i) ++ replicate (2 * q - s.count) (pos 0)

-- lane b of the first 2·q rows holds a band's weights, one for each of its components, all in their range
pub record HasLongWeights (q b : ℕ) (s : PredictorState) (rows : List (List ℤ)) : Type 0 where
  pub long : length s.weights ≡ component_count s.predictor s.band
  pub used : length s.weights ≤ 2 * q → take (length s.weights) (column_of (2 * q) b rows) ≡ s.weights
  pub within : AllWithin (2 ^ (s.predictor.omega + 2)) (column_of (2 * q) b rows)
