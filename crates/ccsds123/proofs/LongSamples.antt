-- No body of the sample-adaptive coder is longer than its numbers allow.
use Rattle.std.proofs.Common.{◌≡◌, ◌+◌, ◌*◌, ◌/◌, ◌%◌, ◌^◌, ◌≤◌, ℕ, Bool, true, false, cond, ltb, List, [], ◌∷◌, ◌++◌, length, replicate, refl}
use Rattle.std.proofs.Common.{length-append, arith}
use Rattle.std.proofs.lemmas.Bool.{ltb-true}
use Rattle.std.proofs.lemmas.List.{length-replicate}
use Rattle.std.proofs.Math.Nat.{suc-mul}
use Rattle.cube_core.specs.declared.order.Place.{Place}
use Rattle.cube_core.proofs.Greatest.{greatest_holds}
use Rattle.header_bits.specs.Bits.{bits_of}
use Rattle.header_bits.proofs.Numbers.{length-bits_of}
use Rattle.sample_adaptive.specs.declared.code_word.Code.{Code}
use Rattle.sample_adaptive.specs.declared.statistics.Statistics.{Statistics}
use Rattle.sample_adaptive.specs.Statistics.{CoderSettings, code_parameter, statistics}
use Rattle.sample_adaptive.specs.Words.{Plain, Escape, form_text, form_of, code_at}
use Rattle.sample_adaptive.specs.Body.{band_residuals, words_after, sample_body}

parameter_few : (bits : ℕ) (s : Statistics) → code_parameter bits s ≤ bits
unfolding code_parameter
parameter_few bits s = grind (arith, greatest_holds)

-- the limits of a code
record Short (c : CoderSettings) (code : Code) : Type 0 where
  limit : code.limit ≤ c.umax
  low : code.k ≤ c.bits
  bits : code.bits ≡ c.bits

code_short : (c : CoderSettings) (z : ℕ) (numbers : List ℕ) → Short c (code_at c z numbers)
unfolding code_at
code_short c z [] = record { limit = omega arith; low = omega arith; bits = refl }
code_short c z (first ∷ later) = record { limit = omega arith; low = parameter_few c.bits (statistics c z (first ∷ later)); bits = refl }

word_short : (c : CoderSettings) (code : Code) (number : ℕ) → Short c code → length (form_text code (form_of code number)) ≤ c.umax + c.bits
unfolding form_of form_text
word_short c code number short = go (ltb (number / 2 ^ code.k) code.limit) refl
  where
    go : (b : Bool) → ltb (number / 2 ^ code.k) code.limit ≡ b
        → length (form_text code (cond b (Plain (number / 2 ^ code.k) (number % 2 ^ code.k)) (Escape number))) ≤ c.umax + c.bits
    go true test =
        omega (
          arith,
          ltb-true (number / 2 ^ code.k) code.limit test,
          length-append (replicate (number / 2 ^ code.k) false) (true ∷ bits_of code.k (number % 2 ^ code.k)),
          length-replicate (number / 2 ^ code.k) false,
          length-bits_of code.k (number % 2 ^ code.k),
        )
    go false test =
        omega (
          arith,
          length-append (replicate code.limit false) (bits_of code.bits number),
          length-replicate code.limit false,
          length-bits_of code.bits number,
        )

words_short : (c : CoderSettings) (gone : List Place) (before : List ℕ) (places : List Place) (numbers : List ℕ)
    → length (words_after c gone before places numbers) ≤ length numbers * (c.umax + c.bits)
unfolding words_after
words_short c gone before [] numbers = omega arith
words_short c gone before (p ∷ ps) [] = omega arith
words_short c gone before (p ∷ ps) (n ∷ ns) =
    let code : Code = code_at c p.z (band_residuals p.z gone before) in
    let most : ℕ = c.umax + c.bits in
    let one : length (form_text code (form_of code n)) ≤ most = word_short c code n (code_short c p.z (band_residuals p.z gone before)) in
    let rest : List Bool = words_after c (gone ++ p ∷ []) (before ++ n ∷ []) ps ns in
    let others : length rest ≤ length ns * most = words_short c (gone ++ p ∷ []) (before ++ n ∷ []) ps ns in
    omega (arith, one, others, suc-mul (length ns) most, length-append (form_text code (form_of code n)) rest)

pub sample_body_short : (c : CoderSettings) (places : List Place) (numbers : List ℕ) → length (sample_body c places numbers) ≤ length numbers * (c.umax + c.bits)
unfolding sample_body
sample_body_short c places numbers = words_short c [] [] places numbers
