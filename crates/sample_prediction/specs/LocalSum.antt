-- The local sum σ: four times an average of the neighbours (CCSDS 123.0-B-1, "Local Sums").
use Rattle.std.specs.Prelude.{ℕ, ◌+◌, ◌-◌, ◌==◌, ℤ, pos, ◌+ℤ◌, ◌*ℤ◌, if◌then◌else◌}
use Rattle.cube_core.specs.Image.{Image, sample_at}
use Rattle.sample_prediction.specs.declared.predictor.Predictor.{Predictor}

-- the neighbours to the west, north, north-west and north-east
abbrev pub west : Image → ℕ → ℕ → ℕ → ℤ
west c z y x = sample_at c z y (x - 1)

abbrev pub north : Image → ℕ → ℕ → ℕ → ℤ
north c z y x = sample_at c z (y - 1) x

abbrev pub north_west : Image → ℕ → ℕ → ℕ → ℤ
north_west c z y x = sample_at c z (y - 1) (x - 1)

abbrev pub north_east : Image → ℕ → ℕ → ℕ → ℤ
north_east c z y x = sample_at c z (y - 1) (x + 1)

-- σ; in the first row, the first column and the last column other neighbours replace those that don't exist
unfoldable pub local_sum : Predictor → Image → ℕ → ℕ → ℕ → ℤ
local_sum p c z y x =
    if y == 0 then pos 4 *ℤ west c z y x
    else if p.column then pos 4 *ℤ north c z y x
    else if x == 0 then pos 2 *ℤ (north c z y x +ℤ north_east c z y x)
    else if x + 1 == c.shape.columns then west c z y x +ℤ north_west c z y x +ℤ pos 2 *ℤ north c z y x
    else west c z y x +ℤ north_west c z y x +ℤ north c z y x +ℤ north_east c z y x
