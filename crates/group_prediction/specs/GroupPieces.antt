-- Some bands' predictors before a piece of a row that all of them advance by.
use Rattle.std.specs.Prelude.{ℕ, ◌≡◌, List}
use Rattle.std.specs.List.{AllByRecursion}
use Rattle.cube_core.specs.Image.{Image}
use Rattle.sample_prediction.specs.declared.predictor.Predictor.{Predictor}
use Rattle.predict_core.specs.Following.{PredictorState, IsPieceNext}
use Rattle.predict_core.specs.ImageRuns.{ImageRun}

-- the next n places of each band are those from row y, column x on, and all bands have the same parameters
pub record ArePiecesNext (bands : List PredictorState) (c : Image) (y x n : ℕ) : Type 0 where
  pub predictor : Predictor
  pub each : AllByRecursion (λ b. (b.predictor ≡ predictor) × IsPieceNext b c y x n) bands

-- the next places of a band are those of a run
abbrev pub IsRunNext : PredictorState → ImageRun → Type 0
IsRunNext b r = IsPieceNext b r.image r.y r.x r.count
