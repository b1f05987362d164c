-- A run: samples of one row, one after another, which are replaced together.
use Rattle.std.specs.Prelude.{ℕ, ◌≡◌, ◌+◌, ◌<◌, ◌≤◌, List, length, slice_index}
use Rattle.cube_core.specs.Kind.{sample_of}
use Rattle.cube_core.specs.Image.{Image, IsPlace, sample_at}

-- d is c with the samples of row y of band z, from column x on, replaced by those with these offsets
pub record IsRunSet (c d : Image) (z y x : ℕ) (offsets : List ℕ) : Type 0 where
  pub shape : d.shape ≡ c.shape
  pub kind : d.kind ≡ c.kind
  pub written : (i : ℕ) → i < length offsets → sample_at d z y (x + i) ≡ sample_of c.kind (slice_index offsets i)
  pub others : (z' y' x' : ℕ) → IsPlace c.shape z' y' x' → (z' ≡ z → y' ≡ y → x ≤ x' → x + length offsets ≤ x') → sample_at c z' y' x' ≡ sample_at d z' y' x'
