-- Places of an image that go together.
use Rattle.std.specs.Prelude.{ℕ, ◌≡◌, ◌+◌, ◌<◌, ◌≤◌}
use Rattle.cube_core.specs.Image.{Image, IsPlace}
use Rattle.predict_core.specs.declared.run.TheConstants.{PIECE}

-- `count` places of row y of an image, from column x on; place `first` of them is the first that isn't at t = 0
pub record ImageRun : Type 0 where
  pub image : Image
  pub y : ℕ
  pub x : ℕ
  pub first : ℕ
  pub count : ℕ

-- `first` is the first place of a run from row y, column x on that isn't at t = 0: 1 if the run begins the band, else 0
pub record IsFirstLater (y x first : ℕ) : Type 0 where
  pub most : first ≤ 1
  pub later : 0 < y + (x + first)
  pub start : first ≡ 1 → y + x ≡ 0

-- a run is one of band z: 1 to PIECE of its places, in one row
pub record IsRunOf (z : ℕ) (r : ImageRun) : Type 0 where
  pub place : IsPlace r.image.shape z r.y r.x
  pub some : 1 ≤ r.count
  pub few : r.count ≤ PIECE
  pub inside : r.x + r.count ≤ r.image.shape.columns
  pub first : IsFirstLater r.y r.x r.first
