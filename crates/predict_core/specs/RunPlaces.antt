-- Images that differ only in a run: places of one row, one after another.
use Rattle.std.specs.Prelude.{ℕ, ◌≡◌, ◌+◌, ◌≤◌}
use Rattle.cube_core.specs.Image.{Image, IsPlace, sample_at}
use Rattle.predict_core.specs.Precedence.{AreAlike}

-- column x' of row y' of band z' isn't among the n places of row y of band z from column x on
abbrev pub IsBeside : ℕ → ℕ → ℕ → ℕ → ℕ → ℕ → ℕ → Type 0
IsBeside z y x n z' y' x' = z' ≡ z → y' ≡ y → x ≤ x' → x + n ≤ x'

-- two images have equal samples outside a run
pub record AreAlikeBeside (c d : Image) (z y x n : ℕ) : Type 0 where
  pub alike : AreAlike c d
  pub samples : (z' y' x' : ℕ) → IsPlace c.shape z' y' x' → IsBeside z y x n z' y' x' → sample_at c z' y' x' ≡ sample_at d z' y' x'
