-- Sums of the numbers of a vector.
use Rattle.std.specs.Prelude.{ℕ, zero, suc, ◌+◌}

-- the sum of n numbers, from number i on
abbrev pub total : (ℕ → ℕ) → ℕ → ℕ → ℕ
total f i zero = 0
total f i (suc n) = f i + total f (suc i) n
