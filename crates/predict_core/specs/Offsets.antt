-- The samples of an image as offsets from the least one.
use Rattle.std.specs.Prelude.{ℕ, ◌-ℤ◌, unsigned_abs}
use Rattle.cube_core.specs.Kind.{smin}
use Rattle.cube_core.specs.Image.{Image, sample_at}

-- the number that an image holds at row y, column x of band z: its sample, as an offset from the least one
abbrev pub number_at : Image → ℕ → ℕ → ℕ → ℕ
number_at c z y x = unsigned_abs (sample_at c z y x -ℤ smin c.kind)
