-- How the bytes of a measured sample lie.
use Rattle.std.specs.Prelude.{ℕ, ◌+◌, List, [], ◌∷◌, true, false, codes}
use Rattle.std.specs.Int.{w16, to_le_bytes, to_be_bytes}
use Rattle.std.specs.List.{flat_map}
use Rattle.cube_core.specs.declared.layout.Layout.{Layout}
use Rattle.cube_core.specs.declared.layout.RawOrder.{RawOrder}
use Rattle.speed.specs.declared.cube.Format.{Format}
use Rattle.speed.specs.declared.cube.Format.TheVariants.{Little, Big, Byte}
use Rattle.cube_core.specs.Order.{upto}
use Rattle.speed.specs.Numbers.{state_after, highest}

abbrev pub format_name : Format → List ℕ
format_name Little = codes "little"
format_name Big = codes "big"
format_name Byte = codes "byte"

-- 12 bits in two bytes, or 8 in one
abbrev pub format_bits : Format → ℕ
format_bits Little = 12
format_bits Big = 12
format_bits Byte = 8

abbrev pub layout_of : Format → RawOrder → Layout
layout_of Little order = record { order = order; bytes = 2; little = true }
layout_of Big order = record { order = order; bytes = 2; little = false }
layout_of Byte order = record { order = order; bytes = 1; little = false }

abbrev pub number_bytes : Format → ℕ → List ℕ
number_bytes Little number = to_le_bytes w16 number
number_bytes Big number = to_be_bytes w16 number
number_bytes Byte number = number ∷ []

-- the bytes of so many numbers that are drawn
abbrev pub synthetic_bytes : Format → ℕ → List ℕ
synthetic_bytes format n = flat_map (λ i. number_bytes format (highest (format_bits format) (state_after (i + 1)))) (upto n)
