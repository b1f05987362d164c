-- Numbers that the coders have written.
use Rattle.std.proofs.Common.{◌≡◌, ◌<◌, ◌≤◌, ◌^◌, ℕ, slice_index, Vec, Global, Result, Ok, Err, IfOk, zero, suc, Bool, List, [], ◌∷◌, ◌++◌, length, replicate}
use Rattle.std.proofs.Common.{refl, sym, ap, ◌∙◌, subst, arith}
use Rattle.std.proofs.lemmas.List.{length-append, length-replicate}
use Rattle.cube_core.specs.declared.fault.Fault.{Fault}
use Rattle.cube_core.specs.declared.order.Place.{Place}
use Rattle.cube_core.specs.Shape.{sample_count}
use Rattle.header_bits.specs.declared.params.Params.{Params}
use Rattle.sample_adaptive.specs.Settings.{settings}
use Rattle.sample_adaptive.specs.Body.{sample_body, words_after, band_residuals}
use Rattle.sample_adaptive.specs.Taken.{CoderState, HasTaken, PutsResidual}
use Rattle.sample_adaptive.specs.Words.{code_word, code_at}
use Rattle.sample_adaptive.proofs.Running.{body_push}
use Rattle.sample_adaptive.proofs.Taking.{taken_along}
use Rattle.block_adaptive.specs.Settings.{AreForBlocks, IsCutOf, cut_by}
use Rattle.block_adaptive.specs.Segments.{block_count}
use Rattle.block_adaptive.specs.Taken.{WriterState, EndsBody, HasTaken as HaveTaken}
use Rattle.header_bits.specs.Bits.{bits_of_bytes}
use Rattle.file_format.specs.File.{body_of, filled}
use Rattle.file_encoding.proofs.Coders.{block_body_is}
use Rattle.speed.specs.Bodies.{AreOfBits, first_place, one_band_body}

-- the numbers by band: all are of the first
abbrev first_alone : List ℕ → ℕ → List ℕ
first_alone numbers z = band_residuals z (replicate (length numbers) first_place) numbers

-- the numbers were taken as those of the first band, and their code words written
pub record AreCoded (p : Params) (v : CoderState) (numbers : List ℕ) (bits : List Bool) : Type 0 where
  pub taken : HasTaken (settings p) v (first_alone numbers)
  pub text : bits ≡ one_band_body p numbers

pub coded_none : (p : Params) (v : CoderState) (bits : List Bool) → HasTaken (settings p) v (λ z. []) → bits ≡ [] → AreCoded p v [] bits
unfolding band_residuals sample_body words_after
coded_none p v bits taken text = record { taken = taken; text = text }

own_numbers : (numbers : List ℕ) → band_residuals 0 (replicate (length numbers) first_place) numbers ≡ numbers
unfolding band_residuals
own_numbers [] = refl
own_numbers (n ∷ numbers) = ap (λ (ns : List ℕ). n ∷ ns) (own_numbers numbers)

replicate_more : (n : ℕ) (p : Place) → replicate (suc n) p ≡ replicate n p ++ p ∷ []
replicate_more zero p = refl
replicate_more (suc n) p = ap (λ (ps : List Place). p ∷ ps) (replicate_more n p)

pub coded_more : (p : Params) (old new : CoderState) (t number : ℕ) (numbers : List ℕ) (bits now : List Bool) → AreCoded p old numbers bits
    → PutsResidual 0 t number old bits new now → t ≡ length numbers → AreCoded p new (numbers ++ number ∷ []) now
coded_more p old new t number numbers bits now known puts is =
    let gone : List Place = replicate (length numbers) first_place in
    let long : length numbers ≡ length (replicate (length numbers) first_place) = sym (length-replicate (length numbers) first_place) in
    let did = puts (settings p) (first_alone numbers) known.taken (is ∙ ap (λ (ns : List ℕ). length ns) (sym (own_numbers numbers))) in
    let word : List Bool = code_word (code_at (settings p) 0 (first_alone numbers 0)) number in
    let grown : length (numbers ++ number ∷ []) ≡ suc (length numbers) = omega (arith, length-append numbers (number ∷ [])) in
    let next : replicate (length (numbers ++ number ∷ [])) first_place ≡ replicate (length numbers) first_place ++ first_place ∷ [] =
    ap (λ (n : ℕ). replicate n first_place) grown ∙ replicate_more (length numbers) first_place in
    record {
      taken = subst (λ (ps : List Place). HasTaken (settings p) new (λ z. band_residuals z ps (numbers ++ number ∷ []))) (sym next)
          (taken_along (settings p) new gone numbers first_place number long did.1);
      text = did.0
          ∙ ap (λ (x : List Bool). x ++ word) known.text
          ∙ sym (body_push (settings p) gone numbers first_place number long)
          ∙ ap (λ (ps : List Place). sample_body (settings p) ps (numbers ++ number ∷ [])) (sym next);
    }

-- ---- by blocks

-- all numbers were taken, and the body is ended
pub blocks_ended : (p : Params) (v : WriterState) (numbers : List ℕ) (bits now : List Bool) → AreForBlocks p → v.cut ≡ cut_by p
    → IsCutOf (sample_count p.shape) v.cut → length numbers ≡ sample_count p.shape → HaveTaken v numbers bits → EndsBody v bits now → now ≡ body_of p numbers
blocks_ended p v numbers bits now lawful cut room long taken ends =
    let count : block_count v.cut.size (length numbers) ≡ v.cut.count = ap (block_count v.cut.size) long ∙ sym room.blocks in
    let did = ends numbers bits taken count in
    did.1 ∙ did.2 ∙ block_body_is p v.cut numbers lawful.coder cut

-- ---- whole bytes

-- where the bits of a writer are a text, its whole bytes are that text, filled
pub whole_text : (r : Result (Vec ℕ Global) Fault) (P : Type 0) (bits text : List Bool) → IfOk r (λ bytes. bits_of_bytes bytes.items ≡ filled 1 bits)
    → (P → bits ≡ text) → IfOk r (λ bytes. P → bits_of_bytes bytes.items ≡ filled 1 text)
whole_text (Ok bytes) P bits text e f = λ h. e ∙ ap (filled 1) (f h)
whole_text (Err fault) P bits text e f = tt

-- numbers that are all of so many bits hold none that is as great as their power
pub none_greater : (bits : ℕ) (numbers : List ℕ) (i : ℕ) → AreOfBits bits numbers → i < length numbers → 2 ^ bits ≤ slice_index numbers i → ⊥
none_greater bits numbers i small lt more = omega (arith, small i lt, more)
