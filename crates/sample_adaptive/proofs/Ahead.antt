-- What stands in a word that has the next bits.
use Rattle.std.proofs.Common.{◌≡◌, ℕ, ◌+◌, ◌-◌, ◌*◌, ◌/◌, ◌%◌, ◌^◌, ◌<◌, ◌≤◌, Bool, true, false, cond, ltb, List, drop, Ok, Err, refl, sym, ◌∙◌, arith, inl}
use Rattle.std.proofs.Common.{inr}
use Rattle.std.specs.Int.Count.{count_leading_zeros}
use Rattle.std.proofs.lemmas.Bool.{cases_lt, lt-ltb, le-ltb, false≢true}
use Rattle.cube_core.specs.declared.fault.Fault.TheVariants.{BadCode}
use Rattle.header_bits.specs.Windows.{IsAhead}
use Rattle.header_bits.proofs.Ahead.{zeros_ahead, limit_ahead, number_ahead}
use Rattle.sample_adaptive.specs.declared.code_word.Code.{Code}
use Rattle.sample_adaptive.specs.Words.{IsCode}
use Rattle.sample_adaptive.specs.Reading.{word_at, plain_at, escape_at}

-- a plain form
pub plain_ahead : (count index : ℕ) (c : Code) (bits : List Bool) (word zeros low : ℕ) → IsCode c → word < 2 ^ 64 → IsAhead 57 bits word
    → zeros ≡ count_leading_zeros 64 word → zeros < c.limit
    → low ≡ word / 2 ^ (64 - (zeros + 1 + c.k)) % 2 ^ c.k
    → word_at count index c bits ≡ cond (ltb (zeros * 2 ^ c.k + low) (2 ^ c.bits)) (Ok (zeros * 2 ^ c.k + low, drop (zeros + 1 + c.k) bits))
    (Err (BadCode index))
unfolding word_at plain_at
plain_ahead count index c bits word zeros low code below h is few later =
    rw (
      zeros_ahead count c.limit 57 bits word zeros below (omega arith) h (omega (arith, code.limit)) is few,
      lt-ltb zeros c.limit few,
      number_ahead count (zeros + 1) c.k 57 bits word h (omega (arith, few, code.limit, code.k, code.bits)),
      sym later,
    )
    refl

-- an escape
pub escape_ahead : (count index : ℕ) (c : Code) (bits : List Bool) (word residual : ℕ) → IsCode c → word < 2 ^ 64 → IsAhead 57 bits word
    → c.limit ≤ count_leading_zeros 64 word
    → residual ≡ word / 2 ^ (64 - (c.limit + c.bits)) % 2 ^ c.bits
    → word_at count index c bits ≡ cond (ltb (residual / 2 ^ c.k) c.limit) (Err (BadCode index)) (Ok (residual, drop (c.limit + c.bits) bits))
unfolding word_at escape_at
escape_ahead count index c bits word residual code below h many later =
    rw (
      limit_ahead count c.limit 57 bits word below h (omega (arith, code.limit)) many,
      le-ltb c.limit c.limit (omega arith),
      number_ahead count c.limit c.bits 57 bits word h (omega (arith, code.limit, code.bits)),
      sym later,
    )
    refl

not_below : (n most : ℕ) → (n < most → false ≡ true) → most ≤ n
not_below n most h = elim (cases_lt n most) [
  | inl lt ↦ absurd (false≢true (h lt))
  | inr le ↦ le
]

not_within : (most n : ℕ) → (most ≤ n → false ≡ true) → n < most
not_within most n h = elim (cases_lt n most) [
  | inl lt ↦ lt
  | inr le ↦ absurd (false≢true (h le))
]

pub plain_taken : (count index : ℕ) (c : Code) (bits : List Bool) (word zeros low residual after : ℕ) → IsCode c → word < 2 ^ 64 → IsAhead 57 bits word
    → zeros ≡ count_leading_zeros 64 word → zeros < c.limit
    → low ≡ word / 2 ^ (64 - (zeros + 1 + c.k)) % 2 ^ c.k → residual ≡ zeros * 2 ^ c.k + low → residual < 2 ^ c.bits → after ≡ zeros + 1 + c.k
    → word_at count index c bits ≡ Ok (residual, drop after bits)
plain_taken count index c bits word zeros low residual after code below h is few later value fits place_after =
    plain_ahead count index c bits word zeros low code below h is few later ∙ rw (sym value, lt-ltb residual (2 ^ c.bits) fits, sym place_after) refl

pub plain_refused : (count index : ℕ) (c : Code) (bits : List Bool) (word zeros low : ℕ) → IsCode c → word < 2 ^ 64 → IsAhead 57 bits word
    → zeros ≡ count_leading_zeros 64 word → zeros < c.limit
    → low ≡ word / 2 ^ (64 - (zeros + 1 + c.k)) % 2 ^ c.k → (zeros * 2 ^ c.k + low < 2 ^ c.bits → false ≡ true)
    → word_at count index c bits ≡ Err (BadCode index)
plain_refused count index c bits word zeros low code below h is few later large =
    plain_ahead count index c bits word zeros low code below h is few later ∙ rw (le-ltb (zeros * 2 ^ c.k + low) (2 ^ c.bits) (not_below _ _ large)) refl

pub escape_taken : (count index : ℕ) (c : Code) (bits : List Bool) (word residual after : ℕ) → IsCode c → word < 2 ^ 64 → IsAhead 57 bits word
    → c.limit ≤ count_leading_zeros 64 word
    → residual ≡ word / 2 ^ (64 - (c.limit + c.bits)) % 2 ^ c.bits → c.limit ≤ residual / 2 ^ c.k → after ≡ c.limit + c.bits
    → word_at count index c bits ≡ Ok (residual, drop after bits)
escape_taken count index c bits word residual after code below h many later needed place_after =
    escape_ahead count index c bits word residual code below h many later ∙ rw (le-ltb (residual / 2 ^ c.k) c.limit needed, sym place_after) refl

pub escape_refused : (count index : ℕ) (c : Code) (bits : List Bool) (word residual : ℕ) → IsCode c → word < 2 ^ 64 → IsAhead 57 bits word
    → c.limit ≤ count_leading_zeros 64 word
    → residual ≡ word / 2 ^ (64 - (c.limit + c.bits)) % 2 ^ c.bits → (c.limit ≤ residual / 2 ^ c.k → false ≡ true)
    → word_at count index c bits ≡ Err (BadCode index)
escape_refused count index c bits word residual code below h many later needless =
    escape_ahead count index c bits word residual code below h many later ∙ rw (lt-ltb (residual / 2 ^ c.k) c.limit (not_within _ _ needless)) refl
