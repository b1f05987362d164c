-- Integer arithmetic of the predictor's rules.
use Rattle.std.specs.Prelude.{ℕ, ◌/◌, ◌-◌, ◌^◌, ℤ, pos, negsuc, ◌+ℤ◌, ◌-ℤ◌}
use Rattle.std.specs.Int.{int_min, int_max, int_rem_euclid}

-- ⌊a / d⌋
abbrev pub floor_div : ℤ → ℕ → ℤ
floor_div (pos a) d = pos (a / d)
floor_div (negsuc a) d = negsuc (a / d)

-- a clipped to the range from low to high
abbrev pub clip : ℤ → ℤ → ℤ → ℤ
clip a low high = int_max low (int_min a high)

-- the number from -2^(r-1) to 2^(r-1) - 1 that differs from a by a multiple of 2^r: what a register of r bits holds of a
unfoldable pub wrapped : ℕ → ℤ → ℤ
wrapped r a = int_rem_euclid (a +ℤ pos (2 ^ (r - 1))) (pos (2 ^ r)) -ℤ pos (2 ^ (r - 1))
