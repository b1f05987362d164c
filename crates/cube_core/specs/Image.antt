-- An image cube: its sizes, the kind of its samples, and the samples, band after band and row after row.
use Rattle.std.specs.Prelude.{ℕ, ◌≡◌, ◌+◌, ◌*◌, ◌<◌, ℤ, pos, List, length, slice_index_or, slice_set}
use Rattle.cube_core.specs.Shape.{Sizes, AreSizes, sample_count}
use Rattle.cube_core.specs.Kind.{SampleKind, IsKind, IsSample}

pub record Image : Type 0 where
  pub shape : Sizes
  pub kind : SampleKind
  pub samples : List ℤ

-- sizes and kind are in range, and there is a sample of the kind at each place
pub record IsCube (c : Image) : Type 0 where
  pub sizes : AreSizes c.shape
  pub bits : IsKind c.kind
  pub whole : length c.samples ≡ sample_count c.shape
  pub range : (i : ℕ) → i < length c.samples → IsSample c.kind (slice_index_or c.samples i (pos 0))

-- the index of a sample in the list
abbrev pub index_in : ℕ → ℕ → ℕ → ℕ → ℕ → ℕ
index_in columns rows z y x = (z * rows + y) * columns + x

-- the sample of band z at row y, column x
unfoldable pub sample_at : Image → ℕ → ℕ → ℕ → ℤ
sample_at c z y x = slice_index_or c.samples (index_in c.shape.columns c.shape.rows z y x) (pos 0)

-- band z, row y and column x are those of a place
pub record IsPlace (s : Sizes) (z y x : ℕ) : Type 0 where
  pub band : z < s.bands
  pub row : y < s.rows
  pub column : x < s.columns

-- the image with its sample at band z, row y, column x replaced by v
abbrev pub put : Image → ℕ → ℕ → ℕ → ℤ → Image
put c z y x v = record c { samples = slice_set c.samples (index_in c.shape.columns c.shape.rows z y x) v }
