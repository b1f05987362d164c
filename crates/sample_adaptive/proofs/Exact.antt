-- Exactly the bodies of numbers are read, and a body has a bit at least for each number.
use Rattle.std.proofs.Common.{◌≡◌, ◌≤◌, ◌<◌, ◌^◌, ℕ, Bool, true, false, List, [], ◌∷◌, ◌++◌, length, replicate, refl, length-append, arith}
use Rattle.std.specs.List.{AllByRecursion}
use Rattle.cube_core.specs.declared.order.Place.{Place}
use Rattle.header_bits.specs.Bits.{bits_of}
use Rattle.header_bits.specs.Parts.{IsExact}
use Rattle.header_bits.proofs.Numbers.{length-bits_of}
use Rattle.sample_adaptive.specs.declared.code_word.Code.{Code}
use Rattle.sample_adaptive.specs.Statistics.{CoderSettings}
use Rattle.sample_adaptive.specs.Words.{Form, Plain, Escape, form_text, form_of, code_at}
use Rattle.sample_adaptive.specs.Body.{band_residuals, words_after, sample_body}
use Rattle.sample_adaptive.specs.Reading.{sample_body_at}
use Rattle.sample_adaptive.proofs.Bodies.{code_bits, words_again, words_takes}

-- the bodies of so many numbers, each in range
pub body_exact : (count : ℕ) (c : CoderSettings) (places : List Place) → IsExact (sample_body_at count c places)
    (λ residuals bits. (length residuals ≡ length places) × AllByRecursion (λ n. n < 2 ^ c.bits) residuals × (bits ≡ sample_body c places residuals))
unfolding sample_body sample_body_at
body_exact count c places = record {
  again = λ ns body rest s. rw s.2 (words_again count c [] [] places ns rest s.0 s.1);
  found = λ ns bits rest e.
      let words = words_takes count c [] [] places bits (ns, rest) e in
      (sample_body c places ns, (words.count, words.residuals, refl), words.text);
}

-- a code word has a bit at least
word_some : (c : Code) (f : Form) → 1 ≤ c.bits → 1 ≤ length (form_text c f)
unfolding form_text
word_some c (Plain count low) some = omega (arith, length-append (replicate count false) (true ∷ bits_of c.k low))
word_some c (Escape residual) some = omega (arith, length-append (replicate c.limit false) (bits_of c.bits residual), length-bits_of c.bits residual)

words_long : (c : CoderSettings) (gone : List Place) (before : List ℕ) (places : List Place) (residuals : List ℕ) → 1 ≤ c.bits
    → length residuals ≡ length places → length residuals ≤ length (words_after c gone before places residuals)
unfolding words_after
words_long c gone before [] [] some len = omega arith
words_long c gone before (p ∷ ps) (n ∷ ns) some len =
    let code : Code = code_at c p.z (band_residuals p.z gone before) in
    let one = word_some code (form_of code n) (omega (arith, code_bits c p.z (band_residuals p.z gone before))) in
    omega (arith, one, words_long c (gone ++ p ∷ []) (before ++ n ∷ []) ps ns some (omega arith), length-append {A = Bool})
words_long c gone before places residuals some len = absurd (omega arith)

pub no_shorter_body : (c : CoderSettings) (places : List Place) (residuals : List ℕ) → 1 ≤ c.bits → length residuals ≡ length places
    → length residuals ≤ length (sample_body c places residuals)
unfolding sample_body
no_shorter_body c places residuals some len = words_long c [] [] places residuals some len
