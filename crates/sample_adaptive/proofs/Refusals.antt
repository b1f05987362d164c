-- What is read as a code word, and what is refused.
use Rattle.std.proofs.Common.{◌≡◌, ℕ, ◌+◌, ◌*◌, ◌/◌, ◌^◌, ◌<◌, Bool, true, false, cond, ltb, List, [], ◌∷◌, ◌++◌, replicate, Result, Ok, Err, refl, sym, ap}
use Rattle.std.proofs.Common.{subst, ◌∙◌, append_assoc, arith, inl, inr}
use Rattle.std.proofs.lemmas.Bool.{cases_lt, lt-ltb, le-ltb, ltb-true}
use Rattle.std.proofs.lemmas.Nat.{shr_split, div-mul-add, mod-mul-add}
use Rattle.cube_core.specs.declared.fault.Fault.{Fault}
use Rattle.cube_core.specs.declared.fault.Fault.TheVariants.{Truncated, BadCode}
use Rattle.header_bits.specs.Bits.{bits_of, fundamental}
use Rattle.header_bits.specs.Reading.{number_at, zeros_at}
use Rattle.header_bits.proofs.Numbers.{fundamental_is}
use Rattle.header_bits.proofs.Reading.{ok_is, number_again, number_takes, zeros_full}
use Rattle.header_bits.proofs.Reading.{done}
use Rattle.header_bits.proofs.Fronts.{bind_ok, bind_err, failed, number_fault, zeros_again, zeros_takes, zeros_fault}
use Rattle.sample_adaptive.specs.declared.code_word.Code.{Code}
use Rattle.sample_adaptive.specs.Words.{Form, Plain, Escape, IsForm, form_text, form_of, code_word}
use Rattle.sample_adaptive.specs.Reading.{plain_at, escape_at, word_at}
use Rattle.sample_adaptive.specs.Laws.{Begins, WordIsRead, TruncatedIsNoForm, BadCodeIsNoWord}
use Rattle.sample_adaptive.proofs.Forms.{plain_text, escape_text, form_of-fits}

-- what reading a form answers
abbrev pub form_read : ℕ → Code → Form → List Bool → Result (ℕ × List Bool) Fault
form_read index c (Plain quotient low) rest =
    cond (ltb (quotient * 2 ^ c.k + low) (2 ^ c.bits)) (done (quotient * 2 ^ c.k + low, rest)) (Err (BadCode index))
form_read index c (Escape residual) rest = cond (ltb (residual / 2 ^ c.k) c.limit) (Err (BadCode index)) (done (residual, rest))

front : (m : ℕ) (x : List Bool) → replicate m false ++ true ∷ x ≡ fundamental m ++ x
front m x = sym (append_assoc (replicate m false) (true ∷ []) x) ∙ ap (λ (bs : List Bool). bs ++ x) (sym (fundamental_is m))

pub form_again : (count index : ℕ) (c : Code) (f : Form) (rest : List Bool) → IsForm c f
    → word_at count index c (form_text c f ++ rest) ≡ form_read index c f rest
unfolding word_at plain_at escape_at
form_again count index c (Plain quotient low) rest h =
    rw (
      plain_text c quotient low rest,
      front quotient (bits_of c.k low ++ rest),
      zeros_again count quotient c.limit (bits_of c.k low ++ rest) h.0,
      lt-ltb quotient c.limit h.0,
      number_again count c.k low rest h.1,
    ) refl
form_again count index c (Escape residual) rest h =
    rw (
      escape_text c residual rest,
      zeros_full count c.limit (bits_of c.bits residual ++ rest),
      le-ltb c.limit c.limit (omega arith),
      number_again count c.bits residual rest h,
    ) refl

-- a number's own form is read as the number
form_of-read : (index : ℕ) (c : Code) (n : ℕ) (rest : List Bool) → n < 2 ^ c.bits → form_read index c (form_of c n) rest ≡ Ok (n, rest)
unfolding form_of
form_of-read index c n rest lt =
    elim (cases_lt (n / 2 ^ c.k) c.limit) [
      | inl few ↦ rw (lt-ltb (n / 2 ^ c.k) c.limit few, shr_split n c.k, lt-ltb n (2 ^ c.bits) lt) refl
      | inr many ↦ rw (le-ltb (n / 2 ^ c.k) c.limit many, le-ltb (n / 2 ^ c.k) c.limit many) refl
    ]

pub word_again : (count index : ℕ) (c : Code) (n : ℕ) (rest : List Bool) → n < 2 ^ c.bits → word_at count index c (code_word c n ++ rest) ≡ Ok (n, rest)
word_again count index c n rest lt = form_again count index c (form_of c n) rest (form_of-fits c n lt) ∙ form_of-read index c n rest lt

-- ---- a reading that went well

pass_ok : {A : Type 0} (b : Bool) (d : Fault) (x y : A) → cond b (done x) (failed d) ≡ Ok y → (b ≡ true) × (x ≡ y)
pass_ok true d x y e = (refl, ok_is x y e)
pass_ok false d x y e = absurd cc

stop_ok : {A : Type 0} (b : Bool) (d : Fault) (x y : A) → cond b (failed d) (done x) ≡ Ok y → (b ≡ false) × (x ≡ y)
stop_ok true d x y e = absurd cc
stop_ok false d x y e = (refl, ok_is x y e)

abbrev IsWord : Code → List Bool → ℕ × List Bool → Type 0
IsWord c bits x = (x.0 < 2 ^ c.bits) × (bits ≡ code_word c x.0 ++ x.1)

plain_takes : (count index : ℕ) (c : Code) (quotient : ℕ) (bits after : List Bool) (x : ℕ × List Bool) → quotient < c.limit
    → bits ≡ fundamental quotient ++ after → plain_at count index c quotient after ≡ Ok x → IsWord c bits x
unfolding plain_at form_of
plain_takes count index c quotient bits after x few text e =
    let a = bind_ok (number_at count c.k after)
    (λ low. cond (ltb (quotient * 2 ^ c.k + low.0) (2 ^ c.bits)) (Ok (quotient * 2 ^ c.k + low.0, low.1)) (Err (BadCode index))) x e in
    let g = pass_ok (ltb (quotient * 2 ^ c.k + a.0.0) (2 ^ c.bits)) (BadCode index) (quotient * 2 ^ c.k + a.0.0, a.0.1) x a.2 in
    let low = number_takes count c.k after a.0 a.1 in
    let whole : bits ≡ form_text c (Plain quotient a.0.0) ++ a.0.1 = rw (plain_text c quotient a.0.0 a.0.1, front quotient _, ← low.0) text in
    subst (IsWord c bits) g.1
    (ltb-true _ _ g.0, rw (div-mul-add quotient (2 ^ c.k) a.0.0 low.1, lt-ltb quotient c.limit few, mod-mul-add quotient (2 ^ c.k) a.0.0 low.1) whole)

escape_takes : (count index : ℕ) (c : Code) (bits after : List Bool) (x : ℕ × List Bool) → bits ≡ replicate c.limit false ++ after
    → escape_at count index c after ≡ Ok x → IsWord c bits x
unfolding escape_at form_of
escape_takes count index c bits after x text e =
    let a = bind_ok (number_at count c.bits after) (λ residual. cond (ltb (residual.0 / 2 ^ c.k) c.limit) (Err (BadCode index)) (Ok (residual.0, residual.1))) x e in
    let g = stop_ok (ltb (a.0.0 / 2 ^ c.k) c.limit) (BadCode index) (a.0.0, a.0.1) x a.2 in
    let residual = number_takes count c.bits after a.0 a.1 in
    let whole : bits ≡ form_text c (Escape a.0.0) ++ a.0.1 = rw (escape_text c a.0.0 a.0.1, ← residual.0) text in
    subst (IsWord c bits) g.1 (residual.1, rw g.0 whole)

pub word_takes : (count index : ℕ) (c : Code) (bits : List Bool) (x : ℕ × List Bool) → word_at count index c bits ≡ Ok x → IsWord c bits x
unfolding word_at
word_takes count index c bits x e =
    let a = bind_ok (zeros_at count c.limit bits) (λ z. cond (ltb z.0 c.limit) (plain_at count index c z.0 z.1) (escape_at count index c z.1)) x e in
    elim (zeros_takes count c.limit bits a.0 a.1) [
      | inl h ↦ plain_takes count index c a.0.0 bits a.0.1 x h.0 h.1 (rw (lt-ltb a.0.0 c.limit h.0) at a.2)
      | inr h ↦ (let full : ltb a.0.0 c.limit ≡ false = le-ltb _ _ (omega (arith, h.0)) in escape_takes count index c bits a.0.1 x h.1 (rw full at a.2))
    ]

pub word_is_read : WordIsRead
word_is_read count index c n bits rest = (λ lt text. rw text (word_again count index c n rest lt), λ e. word_takes count index c bits (n, rest) e)

-- ---- a reading that was refused

not_truncated : (count index : ℕ) (b : Bool) (x : ℕ × List Bool) → cond b (done x) (Err (BadCode index)) ≡ Err (Truncated count) → ⊥
not_truncated count index true x e = cc
not_truncated count index false x e = cc

not_truncated_either : (count index : ℕ) (b : Bool) (x : ℕ × List Bool) → cond b (Err (BadCode index)) (done x) ≡ Err (Truncated count) → ⊥
not_truncated_either count index true x e = cc
not_truncated_either count index false x e = cc

pub truncated_is_no_form : TruncatedIsNoForm
truncated_is_no_form count index c bits e (Plain quotient low) rest h =
    not_truncated count index (ltb (quotient * 2 ^ c.k + low) (2 ^ c.bits)) (quotient * 2 ^ c.k + low, rest)
    (sym (form_again count index c (Plain quotient low) rest h.form) ∙ ap (λ (bs : List Bool). word_at count index c bs) (sym h.text) ∙ e)
truncated_is_no_form count index c bits e (Escape residual) rest h =
    not_truncated_either count index (ltb (residual / 2 ^ c.k) c.limit) (residual, rest)
    (sym (form_again count index c (Escape residual) rest h.form) ∙ ap (λ (bs : List Bool). word_at count index c bs) (sym h.text) ∙ e)

clash : (count index : ℕ) → Truncated count ≡ BadCode index → ⊥
clash count index e = cc

not_both : (x : ℕ × List Bool) (e : Fault) → done x ≡ Err e → ⊥
not_both x e h = cc

-- a form that is read as a bad code is no number's
no_word : (count index : ℕ) (c : Code) (bits rest : List Bool) (f : Form) → word_at count index c bits ≡ Err (BadCode index) → Begins c f bits rest → (n : ℕ)
    → n < 2 ^ c.bits → form_of c n ≡ f → ⊥
no_word count index c bits rest f e h n lt is =
    not_both (n, rest) (BadCode index) (sym (word_again count index c n rest lt) ∙ ap (λ (g : Form). word_at count index c (form_text c g ++ rest)) is
    ∙ ap (λ (bs : List Bool). word_at count index c bs) (sym h.text) ∙ e)

abbrev SomeForm : Code → List Bool → Type 0
SomeForm c bits = (f : Form) × (rest : List Bool) × Begins c f bits rest

plain_stands : (count index : ℕ) (c : Code) (quotient : ℕ) (bits after : List Bool) → quotient < c.limit → bits ≡ fundamental quotient ++ after
    → plain_at count index c quotient after ≡ Err (BadCode index) → SomeForm c bits
unfolding plain_at
plain_stands count index c quotient bits after few text e =
    elim (bind_err (number_at count c.k after)
    (λ low. cond (ltb (quotient * 2 ^ c.k + low.0) (2 ^ c.bits)) (Ok (quotient * 2 ^ c.k + low.0, low.1)) (Err (BadCode index))) (BadCode index) e) [
      | inl short ↦ absurd (clash count index (number_fault count c.k after (BadCode index) short))
      | inr a ↦
          (let low = number_takes count c.k after a.0 a.1 in
          (Plain quotient a.0.0, a.0.1, record { form = (few, low.1); text = rw (plain_text c quotient a.0.0 a.0.1, front quotient _, ← low.0) text }))
    ]

escape_stands : (count index : ℕ) (c : Code) (bits after : List Bool) → bits ≡ replicate c.limit false ++ after
    → escape_at count index c after ≡ Err (BadCode index) → SomeForm c bits
unfolding escape_at
escape_stands count index c bits after text e =
    elim (bind_err (number_at count c.bits after)
    (λ residual. cond (ltb (residual.0 / 2 ^ c.k) c.limit) (Err (BadCode index)) (Ok (residual.0, residual.1))) (BadCode index) e) [
      | inl short ↦ absurd (clash count index (number_fault count c.bits after (BadCode index) short))
      | inr a ↦
          (let residual = number_takes count c.bits after a.0 a.1 in
          (Escape a.0.0, a.0.1, record { form = residual.1; text = rw (escape_text c a.0.0 a.0.1, ← residual.0) text }))
    ]

form_stands : (count index : ℕ) (c : Code) (bits : List Bool) → word_at count index c bits ≡ Err (BadCode index) → SomeForm c bits
unfolding word_at
form_stands count index c bits e =
    let cause = bind_err (zeros_at count c.limit bits) (λ z. cond (ltb z.0 c.limit) (plain_at count index c z.0 z.1) (escape_at count index c z.1)) _ e in
    elim cause [
      | inl short ↦ absurd (clash count index (zeros_fault count c.limit bits (BadCode index) short))
      | inr a ↦ elim (zeros_takes count c.limit bits a.0 a.1) [
        | inl h ↦ plain_stands count index c a.0.0 bits a.0.1 h.0 h.1 (rw (lt-ltb a.0.0 c.limit h.0) at a.2)
        | inr h ↦ (let full : ltb a.0.0 c.limit ≡ false = le-ltb _ _ (omega (arith, h.0)) in escape_stands count index c bits a.0.1 h.1 (rw full at a.2))
      ]
    ]

pub bad_code_is_no_word : BadCodeIsNoWord
bad_code_is_no_word count index c bits e =
    let form = form_stands count index c bits e in
    (form.0, form.1, form.2, no_word count index c bits form.1 form.0 e form.2)
