-- What `get_one` tells of an option's number.
use Rattle.std.proofs.Common.{◌≡◌, ◌∙◌, ◌<◌, ◌^◌, ℕ, List, Option, Some, None, Result, refl, sym, subst}
use Rattle.std.specs.declared.num.ParseIntError.{ParseIntError}
use Rattle.std.specs.Str.Parse.{ParsesUnsigned, ExplainsUnsignedError, HasUnsignedDigitsIfOk}
use Rattle.clap.specs.Matches.{ReadsOne, one_text}
use Rattle.clap.specs.Walk.{Text, rows_of}
use Rattle.clap.specs.declared.parser.matches.Found.{Found}
use Rattle.clap.proofs.WalkLemmas.{one_text-rows}
use Rattle.command_words.specs.Reading.{HasNumber}

-- what the parsing of a number of 32 bits tells of a word and its answer
abbrev pub Parsed : List ℕ → Result ℕ ParseIntError → Type 0
Parsed t x = ParsesUnsigned 32 10 t x × ExplainsUnsignedError 10 t x × HasUnsignedDigitsIfOk t x

module _ (f : Found) (name : Text) where
  pub some_number : (n : ℕ) → (one_text f name ≡ None → Some n ≡ None) → ((t : List ℕ) → one_text f name ≡ Some t → ReadsOne Parsed t (Some n))
      → HasNumber (rows_of f) name n
  some_number n none value = go (one_text f name) refl
    where
      go : (o : Option Text) → one_text f name ≡ o → HasNumber (rows_of f) name n
      go None e = let bad = none e in absurd (cc)
      go (Some t) e = let read = (value t e).0 in (t, sym (one_text-rows f name) ∙ e, read.0.0, sym read.1)

  pub same_number : (m n : ℕ) → ((t : List ℕ) → one_text f name ≡ Some t → ReadsOne Parsed t (Some m)) → HasNumber (rows_of f) name n → m ≡ n
  same_number m n value has = (value has.0 (one_text-rows f name ∙ has.1)).0.1 ∙ has.3

  pub no_number : (n : ℕ) → ((t : List ℕ) → one_text f name ≡ Some t → ReadsOne Parsed t None) → HasNumber (rows_of f) name n → n < 2 ^ 32 → ⊥
  no_number n value has small =
      let read = value has.0 (one_text-rows f name ∙ has.1) in
      read.1.0 (has.2, subst (λ k. k < 2 ^ 32) (sym has.3) small)
