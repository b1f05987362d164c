-- Bits as lists, the most significant first.
use Rattle.std.specs.Prelude.{ℕ, zero, suc, ◌+◌, ◌/◌, ◌%◌, ◌^◌, ◌==◌, Bool, true, false, List, [], ◌∷◌, length, if◌then◌else◌}
use Rattle.std.specs.List.{flat_map}

-- the n lowest bits of a number, from the highest of them down
unfoldable pub bits_of : ℕ → ℕ → List Bool
bits_of zero v = []
bits_of (suc n) v = (v / 2 ^ n % 2 == 1) ∷ bits_of n v

-- the value of a bit at an exponent: 2^exponent for a one, 0 for a zero
abbrev pub weight_of : Bool → ℕ → ℕ
weight_of bit exponent = if bit then 2 ^ exponent else 0

-- the number that bits spell
unfoldable pub number_of : List Bool → ℕ
number_of [] = 0
number_of (b ∷ bs) = weight_of b (length bs) + number_of bs

-- each byte as eight bits
unfoldable pub bits_of_bytes : List ℕ → List Bool
bits_of_bytes bytes = flat_map (bits_of 8) bytes

-- a fundamental sequence: m zeros and a one
unfoldable pub fundamental : ℕ → List Bool
fundamental zero = true ∷ []
fundamental (suc m) = false ∷ fundamental m

-- a writer: the bits written so far, and the number of further bits for which there is memory
pub record Written : Type 0 where
  pub bits : List Bool
  pub room : ℕ

-- a reader: the number of bits in all, and the bits that are left
pub record Unread : Type 0 where
  pub count : ℕ
  pub left : List Bool
