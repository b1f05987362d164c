-- The sizes of an image (CCSDS 123.0-B-1, "Image").
use Rattle.std.specs.Prelude.{ℕ, ◌*◌, ◌≤◌, nat_le, not, ◌&&◌, pos, Result, Ok}
use Rattle.cube_core.specs.declared.fault.Fault.{Fault}
use Rattle.cube_core.specs.declared.fault.Fault.TheVariants.{FieldRange}
use Rattle.cube_core.specs.declared.fault.Field.TheVariants.{Columns, Rows, Bands}
use Rattle.cube_core.specs.declared.fault.Field.{Field}
use Rattle.cube_core.specs.Steps.{Test, ◌>>◌, refuse_if}

-- the numbers of columns, rows and bands of an image
pub record Sizes : Type 0 where
  pub columns : ℕ
  pub rows : ℕ
  pub bands : ℕ

-- n is from `least` to `most`
abbrev pub InRange : ℕ → ℕ → ℕ → Type 0
InRange least most n = (least ≤ n) × (n ≤ most)

-- each size is 1 to 65,536
pub record AreSizes (s : Sizes) : Type 0 where
  pub columns : InRange 1 65536 s.columns
  pub rows : InRange 1 65536 s.rows
  pub bands : InRange 1 65536 s.bands

-- a size out of range is refused under its name
abbrev pub size_or_fault : Field → ℕ → Test
size_or_fault field size = refuse_if (not (nat_le 1 size && nat_le size 65536)) (FieldRange field (pos size))

-- the sizes, or the refusal of the first that is out of range
abbrev pub sizes_or_fault : Sizes → Result Sizes Fault
sizes_or_fault s =
    size_or_fault Columns s.columns >> size_or_fault Rows s.rows >> size_or_fault Bands s.bands >> Ok s

-- the number of samples of an image of these sizes
abbrev pub sample_count : Sizes → ℕ
sample_count s = s.bands * s.rows * s.columns
