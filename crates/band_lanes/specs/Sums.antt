-- A sum that is held in two parts.
use Rattle.std.specs.Prelude.{ℕ, ◌≡◌, ◌*◌, ◌^◌, ◌≤◌, ℤ, pos, ◌+ℤ◌, ◌*ℤ◌, ◌≤ℤ◌, unsigned_abs}

-- a sum of n numbers of 32 bits, in multiples of 2^Ω and what was left of each number
pub record IsSplit (omega n : ℕ) (sum high low : ℤ) : Type 0 where
  pub value : pos (2 ^ omega) *ℤ high +ℤ low ≡ sum
  pub high_in : unsigned_abs high ≤ n * 2 ^ 27
  pub low_least : pos 0 ≤ℤ low
  pub low_most : low ≤ℤ pos (n * 2 ^ 13)
