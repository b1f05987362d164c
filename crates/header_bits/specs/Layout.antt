-- A part of a header as a list of numbers, each in a slot of a fixed number of bits (CCSDS 123.0-B-1, "Header").
use Rattle.std.specs.Prelude.{ℕ, ◌+◌, ◌-◌, ◌%◌, ◌^◌, ◌<◌, ◌≤◌, ◌==◌, Bool, if◌then◌else◌, List, [], ◌∷◌, ◌++◌, take, drop}
use Rattle.std.specs.List.{AllByRecursion}
use Rattle.header_bits.specs.declared.layout.Slot.{Slot}
use Rattle.header_bits.specs.declared.layout.Slot.TheVariants.{Reserved, Plain, Modulo}
use Rattle.header_bits.specs.Bits.{bits_of, number_of}

abbrev pub width : Slot → ℕ
width (Reserved n) = n
width (Plain n least) = n
width (Modulo n) = n

-- the number for which a slot's bits stand: the bits as a number; that plus the least number; or that, with 2^n for 0
abbrev pub value_of : Slot → ℕ → ℕ
value_of (Reserved n) code = code
value_of (Plain n least) code = least + code
value_of (Modulo n) code = if code == 0 then 2 ^ n else code

-- the bits that stand for a number, as a number themselves
abbrev pub code_of : Slot → ℕ → ℕ
code_of (Reserved n) value = value
code_of (Plain n least) value = value - least
code_of (Modulo n) value = value % 2 ^ n

-- the numbers that a slot can hold
abbrev pub IsValue : Slot → ℕ → Type 0
IsValue (Reserved n) value = value < 2 ^ n
IsValue (Plain n least) value = (least ≤ value) × (value < least + 2 ^ n)
IsValue (Modulo n) value = (1 ≤ value) × (value ≤ 2 ^ n)

-- a number for each slot
abbrev pub AreValues : List Slot → List ℕ → Type 0
AreValues [] [] = Unit {0}
AreValues [] (v ∷ vs) = ⊥
AreValues (s ∷ ss) [] = ⊥
AreValues (s ∷ ss) (v ∷ vs) = IsValue s v × AreValues ss vs

-- no slot is wider than 16 bits, and none counts from above 64
abbrev pub IsNarrow : Slot → Type 0
IsNarrow (Reserved n) = n ≤ 16
IsNarrow (Plain n least) = (n ≤ 16) × (least ≤ 64)
IsNarrow (Modulo n) = n ≤ 16

abbrev pub AreNarrow : List Slot → Type 0
AreNarrow slots = AllByRecursion IsNarrow slots

-- the number of bits of all slots
unfoldable pub total : List Slot → ℕ
total [] = 0
total (s ∷ ss) = width s + total ss

-- the bits that spell numbers
unfoldable pub spelled : List Slot → List ℕ → List Bool
spelled [] vs = []
spelled (s ∷ ss) [] = []
spelled (s ∷ ss) (v ∷ vs) = bits_of (width s) (code_of s v) ++ spelled ss vs

-- the numbers that bits spell
unfoldable pub values : List Slot → List Bool → List ℕ
values [] bits = []
values (s ∷ ss) bits = value_of s (number_of (take (width s) bits)) ∷ values ss (drop (width s) bits)
