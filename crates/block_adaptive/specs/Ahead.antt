-- The next bits of a reader, looked at before they are taken.
use Rattle.std.specs.Prelude.{◌≡◌, ℕ, ◌+◌, ◌-◌, ◌*◌, ◌/◌, ◌%◌, ◌^◌, ◌<◌, ◌≤◌, Bool, List, [], ◌∷◌, ◌++◌, length, drop}
use Rattle.header_bits.specs.Bits.{bits_of}
use Rattle.block_adaptive.specs.declared.ahead.Ahead.{Ahead}

-- the number of bits ahead that are used
abbrev pub used : Ahead → ℕ
used a = a.peeked - a.known

-- the word has only the bits that aren't used yet
pub record IsWord (a : Ahead) : Type 0 where
  pub few : a.known ≤ 57
  pub below : a.word < 2 ^ a.known

-- the bits ahead are the next bits of the reader
pub record IsAhead (a : Ahead) (left : List Bool) : Type 0 where
  pub few : a.known ≤ a.peeked
  pub most : a.peeked ≤ 57
  pub enough : a.peeked ≤ length left
  pub bits : drop (used a) left ≡ bits_of a.known a.word ++ drop a.peeked left

-- some more bits are used
pub record Uses (a b : Ahead) (bits left : List Bool) : Type 0 where
  pub ahead : IsAhead b left
  pub text : drop (used a) left ≡ bits ++ drop (used b) left

-- four values of quotients and their k low bits, which are the highest bits of a word
abbrev pub joined_four : ℕ → ℕ → ℕ → ℕ → ℕ → ℕ → List ℕ
joined_four k word a b c d =
    let low : ℕ → ℕ = λ position. word / 2 ^ (64 - position) % 2 ^ k in
    (a * 2 ^ k + low k) ∷ (b * 2 ^ k + low (2 * k)) ∷ (c * 2 ^ k + low (3 * k)) ∷ (d * 2 ^ k + low (4 * k)) ∷ []
