-- Pieces of a row: places that several band predictors have passed together, and the residuals that they hold for them.
use Rattle.std.specs.Prelude.{◌≡◌, ℕ, ◌+◌, ◌*◌, List, map, take, drop, slice_index_or}
use Rattle.std.specs.List.{flat_map, AllByRecursion}
use Rattle.cube_core.specs.Image.{Image}
use Rattle.cube_core.specs.Order.{upto}
use Rattle.header_bits.specs.declared.params.Params.{Params}
use Rattle.predict_core.specs.Following.{PredictorState}
use Rattle.sample_prediction.specs.Residual.{run_residuals}
use Rattle.file_encoding.specs.Walks.{IsAt}

-- a band predictor has passed n places from raster index t on, and holds their residuals
pub record IsPast (p : Params) (c : Image) (t n : ℕ) (b : PredictorState) : Type 0 where
  pub at : IsAt p c (t + n) b
  pub held : take n b.piece ≡ run_residuals p c b.band t n

-- all of these band predictors have passed them, and hold their residuals
abbrev pub ArePast : Params → Image → ℕ → ℕ → List PredictorState → Type 0
ArePast p c t n bands = AllByRecursion (λ b. IsPast p c t n b) bands

-- the residuals that band predictors hold for place i of their pieces
abbrev pub held_at : List PredictorState → ℕ → List ℕ
held_at bands i = map (λ b. slice_index_or b.piece i 0) bands

-- the residuals that they hold for the first n places of their pieces, place after place
abbrev pub held_of : List PredictorState → ℕ → List ℕ
held_of bands n = flat_map (λ i. held_at bands i) (upto n)

-- the first n numbers of row k, where rows of as many columns stand one after another
abbrev pub row_start : ℕ → ℕ → ℕ → List ℕ → List ℕ
row_start columns k n room = take n (drop (k * columns) room)
