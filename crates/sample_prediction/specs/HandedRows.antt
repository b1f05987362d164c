-- An image of which the first rows are known: row after row, and in each row band after band, each sample as its offset s - s_min.
use Rattle.std.specs.Prelude.{ℕ, ◌≡◌, ◌+◌, ◌-◌, ◌*◌, ◌/◌, ◌%◌, ◌^◌, ◌<◌, List, length, take, drop, map, slice_index_or}
use Rattle.std.specs.List.{AllByRecursion}
use Rattle.cube_core.specs.Shape.{Sizes, sample_count}
use Rattle.cube_core.specs.Kind.{SampleKind}
use Rattle.cube_core.specs.Offsets.{samples_of}
use Rattle.cube_core.specs.Image.{Image}
use Rattle.cube_core.specs.Order.{upto}

-- the number of samples of a row of all bands
abbrev pub row_size : Sizes → ℕ
row_size s = s.bands * s.columns

-- the index of a sample among the rows
abbrev pub index_by_rows : Sizes → ℕ → ℕ → ℕ → ℕ
index_by_rows s z y x = (y * s.bands + z) * s.columns + x

-- the offset at an index of a cube's list, band after band: that of the rows, or 0 if no row is known there
abbrev pub offset_by_rows : Sizes → List ℕ → ℕ → ℕ
offset_by_rows s offsets i = slice_index_or offsets (index_by_rows s (i / s.columns / s.rows) (i / s.columns % s.rows) (i % s.columns)) 0

-- the image that has these first rows, and the least sample of the kind in all others
unfoldable pub image_of_rows : Sizes → SampleKind → List ℕ → Image
image_of_rows s k offsets = record { shape = s; kind = k; samples = samples_of k (map (offset_by_rows s offsets) (upto (sample_count s))) }

-- row y is the last of the rows, `last` its samples, and `before` those of the row above it, or its own if it is the first
pub record AreLastRows (s : Sizes) (k : SampleKind) (offsets : List ℕ) (y : ℕ) (last before : List ℕ) : Type 0 where
  pub row : y < s.rows
  pub size : length offsets ≡ (y + 1) * row_size s
  pub range : AllByRecursion (λ v. v < 2 ^ k.bits) offsets
  pub present : last ≡ drop (y * row_size s) offsets
  pub above : before ≡ take (row_size s) (drop ((y - 1) * row_size s) offsets)

-- the samples of band z among those of a row of all bands
abbrev pub IsRowThere : Sizes → ℕ → List ℕ → List ℕ → Type 0
IsRowThere s z row band = band ≡ take s.columns (drop (z * s.columns) row)
