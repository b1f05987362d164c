-- The options of a block, their identifiers and their bits (CCSDS 121.0-B, "Code options" and "Code option identifiers").
use Rattle.std.specs.Prelude.{ℕ, ◌+◌, ◌-◌, ◌*◌, ◌/◌, ◌^◌, ◌<◌, nat_le, ◌&&◌, Bool, true, false, List, [], ◌∷◌, ◌++◌, length, replicate, if◌then◌else◌}
use Rattle.std.specs.List.{flat_map, sum_by}
use Rattle.header_bits.specs.Bits.{bits_of, fundamental}
use Rattle.block_adaptive.specs.declared.options.CodeSet.{CodeSet}
use Rattle.block_adaptive.specs.declared.options.Choice.{Choice}
use Rattle.block_adaptive.specs.declared.options.Choice.TheVariants.{Uncoded, Second, Split}

-- the number of bits of an identifier: 3 if D ≤ 8, else 4; in the restricted set 1 if D = 2, else 2; zero blocks and the second extension have one more
abbrev pub width : CodeSet → ℕ
width s = if s.restricted && nat_le s.bits 4 then (if nat_le s.bits 2 then 1 else 2) else if nat_le s.bits 8 then 3 else 4

-- the number of split-sample options: k from 0 to one less
abbrev pub splits : CodeSet → ℕ
splits s = 2 ^ width s - 2

-- the identifier of zero blocks: zeros
unfoldable pub zero_identifier : CodeSet → List Bool
zero_identifier s = replicate (width s) false ++ false ∷ []

-- the identifier of uncoded: ones; of the second extension: zeros and a one; of split-sample: the number k + 1
unfoldable pub identifier : CodeSet → Choice → List Bool
identifier s Uncoded = replicate (width s) true
identifier s Second = replicate (width s) false ++ true ∷ []
identifier s (Split k) = bits_of (width s) (k + 1)

-- the greatest value, 2^D - 1
abbrev pub greatest_value : CodeSet → ℕ
greatest_value s = 2 ^ s.bits - 1

-- the number of a pair: (a+b)(a+b+1)/2 + b
abbrev pub pair_number : ℕ → ℕ → ℕ
pair_number a b = (a + b) * (a + b + 1) / 2 + b

-- the fundamental sequences of pairs, one after another
unfoldable pub pair_codes : List ℕ → List Bool
pair_codes [] = []
pair_codes (a ∷ []) = fundamental (pair_number a 0)
pair_codes (a ∷ b ∷ values) = fundamental (pair_number a b) ++ pair_codes values

-- the fundamental sequences of values without their k lowest bits
unfoldable pub quotient_codes : ℕ → List ℕ → List Bool
quotient_codes k values = flat_map (λ v. fundamental (v / 2 ^ k)) values

-- the sum of values without their k lowest bits
abbrev pub quotient_sum : ℕ → List ℕ → ℕ
quotient_sum k values = sum_by (λ v. v / 2 ^ k) values

-- the k lowest bits of each value
unfoldable pub low_groups : ℕ → List ℕ → List Bool
low_groups k values = flat_map (λ v. bits_of k v) values

-- a block's bits under an option, after the identifier
unfoldable pub coded : CodeSet → Choice → List ℕ → List Bool
coded s Uncoded values = low_groups s.bits values
coded s Second values = pair_codes values
coded s (Split k) values = quotient_codes k values ++ low_groups k values

-- the data set of a block under an option
unfoldable pub option_text : CodeSet → Choice → List ℕ → List Bool
option_text s o values = identifier s o ++ coded s o values

-- the number of its bits
abbrev pub cost : CodeSet → Choice → List ℕ → ℕ
cost s o values = length (option_text s o values)

-- an option of the set
abbrev pub IsOption : CodeSet → Choice → Type 0
IsOption s Uncoded = Unit {0}
IsOption s Second = Unit {0}
IsOption s (Split k) = k < splits s
