-- Words of 64 bits taken from bytes at some position.
use Rattle.std.specs.Prelude.{◌≡◌, ℕ, ◌+◌, ◌-◌, ◌*◌, ◌/◌, ◌%◌, ◌^◌, ◌≤◌, Bool, List, ◌++◌, length, drop}
use Rattle.header_bits.specs.Bits.{bits_of, bits_of_bytes}

-- the highest bits of the word are those of the first eight bytes, or of all bytes if there are fewer
abbrev pub IsFrontWord : List ℕ → ℕ → Type 0
IsFrontWord bytes word = (n : ℕ) → n ≤ 64 → n ≤ 8 * length bytes → bits_of_bytes bytes ≡ bits_of n (word / 2 ^ (64 - n)) ++ drop n (bits_of_bytes bytes)

-- the highest bits of the word are the bits from position `at` to the end of the eighth byte from there, or to the last bit if that comes first
abbrev pub IsWindow : List ℕ → ℕ → ℕ → Type 0
IsWindow bytes at word = (n : ℕ) → at % 8 + n ≤ 64 → at + n ≤ 8 * length bytes
    → drop at (bits_of_bytes bytes) ≡ bits_of n (word / 2 ^ (64 - n)) ++ drop (at + n) (bits_of_bytes bytes)

-- the `most` highest bits of the word are the next bits
abbrev pub IsAhead : ℕ → List Bool → ℕ → Type 0
IsAhead most bits word = (n : ℕ) → n ≤ most → bits ≡ bits_of n (word / 2 ^ (64 - n)) ++ drop n bits
