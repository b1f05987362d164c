-- How a cube keeps its samples: each as its offset s - s_min from the least sample of the kind.
use Rattle.std.specs.Prelude.{ℕ, ◌≡◌, ◌<◌, ◌^◌, ℤ, List, length, map, slice_index}
use Rattle.cube_core.specs.Shape.{Sizes, sample_count}
use Rattle.cube_core.specs.Kind.{SampleKind, sample_of}
use Rattle.cube_core.specs.Image.{Image, sample_at}

unfoldable pub samples_of : SampleKind → List ℕ → List ℤ
samples_of k offsets = map (sample_of k) offsets

-- one offset for each place, each below 2^D
pub record AreOffsets (s : Sizes) (k : SampleKind) (offsets : List ℕ) : Type 0 where
  pub whole : length offsets ≡ sample_count s
  pub range : (i : ℕ) → i < length offsets → slice_index offsets i < 2 ^ k.bits

-- the offsets of one row's samples
abbrev pub AreRowOffsets : Image → ℕ → ℕ → List ℕ → Type 0
AreRowOffsets c z y offsets = (x : ℕ) → x < c.shape.columns → (slice_index offsets x < 2 ^ c.kind.bits)
    × (sample_at c z y x ≡ sample_of c.kind (slice_index offsets x))
