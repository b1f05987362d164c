-- Bits gathered in a word, number after number.
use Rattle.std.proofs.Common.{◌≡◌, ℕ, ◌+◌, ◌^◌, ◌<◌, ◌≤◌, Bool, List, [], ◌++◌, length, sym, ap, subst, ◌∙◌, append_assoc, arith}
use Rattle.std.proofs.lemmas.List.{append-nil, length-append}
use Rattle.std.proofs.lemmas.Nat.{pow_pos}
use Rattle.header_bits.specs.Bits.{bits_of}
use Rattle.header_bits.proofs.Numbers.{no_bits, length-bits_of}

-- a word has the first of some bits, and the others are left
pub record Words (held word : ℕ) (whole rest : List Bool) : Type 0 where
  pub text : bits_of held word ++ rest ≡ whole
  pub below : word < 2 ^ held

pub words_start : (whole : List Bool) → Words 0 0 whole whole
words_start whole = record { text = ap (λ (bits : List Bool). bits ++ whole) (no_bits 0); below = pow_pos 0 }

module _ {held word : ℕ} {whole rest : List Bool} where
  pub words_few : (n bits : ℕ) (after : List Bool) → Words held word whole rest → rest ≡ bits_of n bits ++ after → held + n ≤ length whole
  words_few n bits after h is =
      omega (
        arith,
        ap length h.text,
        length-append (bits_of held word) rest,
        length-bits_of held word,
        ap length is,
        length-append (bits_of n bits) after,
        length-bits_of n bits,
      )

  pub words_joined : (n bits next : ℕ) (after : List Bool) → Words held word whole rest → rest ≡ bits_of n bits ++ after → next < 2 ^ (held + n)
      → bits_of (held + n) next ≡ bits_of held word ++ bits_of n bits → Words (held + n) next whole after
  words_joined n bits next after h is below joined = record {
    text = ap (λ (x : List Bool). x ++ after) joined ∙ append_assoc (bits_of held word) (bits_of n bits) after ∙ ap (λ (x : List Bool). bits_of held word ++ x)
        (sym is) ∙ h.text;
    below = below;
  }

  words_length : Words held word whole rest → rest ≡ [] → length whole ≡ held
  words_length h is = omega (arith, ap length h.text, length-append (bits_of held word) rest, length-bits_of held word, ap length is)

  pub words_end : Words held word whole rest → rest ≡ [] → bits_of (length whole) word ≡ whole
  words_end h is =
      ap (λ (n : ℕ). bits_of n word) (words_length h is) ∙ sym (append-nil (bits_of held word)) ∙ ap (λ (x : List Bool). bits_of held word ++ x) (sym is)
      ∙ h.text

  pub words_below : Words held word whole rest → rest ≡ [] → word < 2 ^ length whole
  words_below h is = subst (λ (n : ℕ). word < 2 ^ n) (sym (words_length h is)) h.below
