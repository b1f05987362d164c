-- The invariant of a band's predictor.
use Rattle.std.specs.Prelude.{◌≡◌, ◌+◌, ◌^◌, ◌<◌, ◌≤◌, ℤ, List}
use Rattle.cube_core.specs.Shape.{Sizes}
use Rattle.predict_core.specs.declared.settings.Settings.{Settings}
use Rattle.sample_prediction.specs.Bounds.{AllWithin}

pub record IsPredictorState (s : Settings) (shape : Sizes) (weights : List ℤ) : Type 0 where
  pub rows : shape.rows ≤ 65536
  pub columns : s.columns ≡ shape.columns
  pub inside : s.band < shape.bands
  pub bounded : AllWithin (2 ^ (s.predictor.omega + 2)) weights
