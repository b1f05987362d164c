-- Words that stand side by side in lanes: numbers, of which the lowest bits are taken.
use Rattle.std.specs.Prelude.{ℕ, zero, suc, ◌≡◌, ◌+◌, ◌*◌, ◌^◌, ◌<◌, ◌≤◌, Bool, List, [], ◌++◌}
use Rattle.header_bits.specs.Bits.{bits_of}
use Rattle.lanes.specs.Lanes.{number}
use Rattle.word_lanes.specs.declared.eight_words.EightWords.{EightWords}

-- n texts, from number i on, one after another
abbrev pub texts : (ℕ → List Bool) → ℕ → ℕ → List Bool
texts text i zero = []
texts text i (suc n) = text i ++ texts text (suc i) n

-- the word in lane i, of numbers and lengths
abbrev pub text_at : List ℕ → List ℕ → ℕ → List Bool
text_at bits lengths i = bits_of (number lengths i) (number bits i)

-- as many words as `count`, none longer than `most`, whose numbers fit in their lengths
pub record AreWords (most count : ℕ) (bits lengths : List ℕ) : Type 0 where
  pub length : (i : ℕ) → i < count → number lengths i ≤ most
  pub below : (i : ℕ) → i < count → number bits i < 2 ^ number lengths i

-- each of these words is two neighbours of others
abbrev pub ArePairs : ℕ → List ℕ → List ℕ → List ℕ → List ℕ → Type 0
ArePairs count bits lengths singles single_lengths =
    (i : ℕ) → i < count → text_at bits lengths i ≡ text_at singles single_lengths (2 * i) ++ text_at singles single_lengths (2 * i + 1)

-- the bits of one of eight words
abbrev pub word_text : EightWords → ℕ → List Bool
word_text w i = text_at w.bits w.lengths i

-- each of eight words has at most 14 bits
abbrev pub AreShort : EightWords → Type 0
AreShort w = AreWords 14 8 w.bits w.lengths
