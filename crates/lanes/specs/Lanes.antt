-- The lanes of vectors, and what each step puts into one of them.
use Rattle.std.specs.Prelude.{ℕ, ◌+◌, ◌*◌, ◌^◌, ℤ, pos, negsuc, ◌+ℤ◌, ◌*ℤ◌, List, [], slice_index_or}
use lib.Ieee.{binary32, of_int, to_bits}
use Rattle.std.specs.Int.{int_min, int_max, int_div_euclid}

-- lane k of a vector
abbrev pub lane : List ℤ → ℕ → ℤ
lane v k = slice_index_or v k (pos 0)

-- lane k of a vector of numbers without a sign
abbrev pub number : List ℕ → ℕ → ℕ
number v k = slice_index_or v k 0

-- the bits of a number as a float of 32 bits
abbrev pub bits_as_float : ℕ → ℕ
bits_as_float n = to_bits binary32 (of_int binary32 (pos n))

-- what 16 bits hold of a number: the nearest that they have
abbrev pub held : ℤ → ℤ
held a = int_max (negsuc 32767) (int_min a (pos 32767))

-- the sum of two neighbouring products: of lanes 2k and 2k + 1
abbrev pub pair_sum : List ℤ → List ℤ → ℕ → ℤ
pair_sum a b k = lane a (2 * k) *ℤ lane b (2 * k) +ℤ lane a (2 * k + 1) *ℤ lane b (2 * k + 1)

-- ⌊a / 2^by⌋
abbrev pub halved : ℤ → ℕ → ℤ
halved a by = int_div_euclid a (pos (2 ^ by))

-- place i of line b
abbrev pub place : List (List ℤ) → ℕ → ℕ → ℤ
place lines b i = slice_index_or (slice_index_or lines b []) i (pos 0)
