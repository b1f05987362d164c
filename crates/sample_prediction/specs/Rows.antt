-- The rows of an image that the prediction of row y may read: row y of all bands, and the row above it.
use Rattle.std.specs.Prelude.{ℕ}
use Rattle.cube_core.specs.Image.{Image}

pub record ImageRow : Type 0 where
  pub image : Image
  pub y : ℕ
