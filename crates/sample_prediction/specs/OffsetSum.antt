-- The local sum of samples that are kept as offsets s - s_min.
use Rattle.std.specs.Prelude.{ℕ, ◌≡◌, ◌+◌, ◌-◌, ◌*◌, ◌==◌, ℤ, pos, ◌+ℤ◌, ◌-ℤ◌, List, length, slice_index, Bool, if◌then◌else◌}
use Rattle.cube_core.specs.Kind.{smin}
use Rattle.cube_core.specs.Image.{Image, sample_at}

-- the local sum of offsets at column x, σ - 4·s_min, from the offsets of its row and of the one above
abbrev pub offset_sum : Bool → ℕ → List ℕ → List ℕ → ℕ → ℕ
offset_sum column y row above x =
    if y == 0 then 4 * slice_index row (x - 1)
    else if column then 4 * slice_index above x
    else if x == 0 then 2 * (slice_index above x + slice_index above (x + 1))
    else if x + 1 == length row then slice_index row (x - 1) + slice_index above (x - 1) + 2 * slice_index above x
    else slice_index row (x - 1) + slice_index above (x - 1) + slice_index above x + slice_index above (x + 1)

-- a local difference from offsets: four times one, less their local sum
abbrev pub offset_difference : ℕ → ℕ → ℤ
offset_difference offset sum = pos (4 * offset) -ℤ pos sum

-- the offset of the western neighbour of a place below the first row; in the first column, of the northern one
abbrev pub IsWest : Image → ℕ → ℕ → ℕ → ℕ → Type 0
IsWest c z y x west = sample_at c z (if x == 0 then y - 1 else y) (x - 1) ≡ smin c.kind +ℤ pos west
