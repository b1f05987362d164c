-- The front of a row of one band, which was taken from raw bytes.
use Rattle.std.specs.Prelude.{ℕ, ◌≡◌, ◌*◌, List, take}
use Rattle.cube_core.specs.declared.layout.Layout.{Layout}
use Rattle.cube_core.specs.Image.{Image}
use Rattle.cube_core.specs.Layout.{HaveBytes, raw_bytes}
use Rattle.cube_core.specs.Raw.{AreSamples}

-- the first `count` samples of a cube are those of these raw bytes, and fit in them
pub record IsFront (c : Image) (l : Layout) (count : ℕ) (bytes : List ℕ) : Type 0 where
  pub raw : take (count * l.bytes) (raw_bytes c l) ≡ bytes
  pub fits : HaveBytes c l count
  pub samples : AreSamples c.kind l bytes count
