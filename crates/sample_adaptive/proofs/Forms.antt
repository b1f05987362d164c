-- Code words as numbers, and that no form is a prefix of another.
use Rattle.std.proofs.Common.{◌≡◌, ℕ, zero, suc, ◌+◌, ◌*◌, ◌/◌, ◌%◌, ◌^◌, ◌<◌, ◌≤◌, Bool, true, false, List, [], ◌∷◌, ◌++◌, replicate, refl, sym, ap, ◌∙◌}
use Rattle.std.proofs.Common.{append_assoc, arith, inl, inr}
use Rattle.std.proofs.lemmas.List.{append_cancel_left}
use Rattle.std.proofs.lemmas.Bool.{cases_lt, lt-ltb, le-ltb}
use Rattle.std.proofs.lemmas.Nat.{pow_pos, shr_split}
use Rattle.std.proofs.Math.Nat.{mod-lt, div-eq_of_lt, pow-succ'}
use Rattle.std.proofs.Math.Pow.{pow_mono}
use Rattle.header_bits.specs.Bits.{bits_of}
use Rattle.header_bits.proofs.Numbers.{bits_of-add, bits_of-join, bits_of-mod, bits_of_zero, bits_of_one, taken_is}
use Rattle.sample_adaptive.specs.declared.code_word.Code.{Code}
use Rattle.sample_adaptive.specs.Words.{Plain, Escape, IsForm, form_text, spelt, form_of, code_word}
use Rattle.sample_adaptive.specs.Laws.{OneForm, OneWord}

-- ---- a code word is the bits of one number

plain_bits : (q k j : ℕ) → bits_of (q + 1 + k) (2 ^ k + j % 2 ^ k) ≡ replicate q false ++ true ∷ bits_of k j
plain_bits q k j =
    let e : 2 ^ k + j % 2 ^ k ≡ 1 * 2 ^ k + j % 2 ^ k = omega arith in
    let low : j % 2 ^ k < 2 ^ k = mod-lt j (pow_pos k) in
    rw e (bits_of-join (q + 1) k 1 (j % 2 ^ k) low
    ∙ rw (bits_of_one q, bits_of-mod k k j (omega arith)) (append_assoc (replicate q false) (true ∷ []) (bits_of k j)))

pub plain_word : (c : Code) (n : ℕ) → n / 2 ^ c.k < c.limit → bits_of (n / 2 ^ c.k + 1 + c.k) (2 ^ c.k + n % 2 ^ c.k) ≡ code_word c n
unfolding form_text form_of
plain_word c n few =
    rw (lt-ltb (n / 2 ^ c.k) c.limit few)
    (plain_bits (n / 2 ^ c.k) c.k n ∙ ap (λ (bs : List Bool). replicate (n / 2 ^ c.k) false ++ true ∷ bs) (sym (bits_of-mod c.k c.k n (omega arith))))

pub plain_below : (q k j : ℕ) → 2 ^ k + j % 2 ^ k < 2 ^ (q + 1 + k)
plain_below q k j =
    let low : j % 2 ^ k < 2 ^ k = mod-lt j (pow_pos k) in
    let twice : 2 ^ suc k ≡ 2 * 2 ^ k = pow-succ' 2 k in
    let most : 2 ^ suc k ≤ 2 ^ (q + 1 + k) = pow_mono {i = suc k} {j = q + 1 + k} (omega arith) in
    omega arith

pub escape_word : (c : Code) (n : ℕ) → c.limit ≤ n / 2 ^ c.k → n < 2 ^ c.bits → bits_of (c.limit + c.bits) n ≡ code_word c n
unfolding form_text form_of
escape_word c n many lt =
    let none : n / 2 ^ c.bits ≡ 0 = div-eq_of_lt lt in
    rw (le-ltb (n / 2 ^ c.k) c.limit many) (bits_of-add c.limit c.bits n ∙ rw none (ap (λ (bs : List Bool). bs ++ bits_of c.bits n) (bits_of_zero c.limit)))

pub escape_below : (limit bits n : ℕ) → n < 2 ^ bits → n < 2 ^ (limit + bits)
escape_below limit bits n lt =
    let most : 2 ^ bits ≤ 2 ^ (limit + bits) = pow_mono {i = bits} {j = limit + bits} (omega arith) in
    omega arith

-- ---- no form is a prefix of another

tail_of : (b d : Bool) (x y : List Bool) → b ∷ x ≡ d ∷ y → x ≡ y
tail_of b d x y e = cc

one_no_zero : (x y : List Bool) → true ∷ x ≡ false ∷ y → ⊥
one_no_zero x y e = cc

-- zeros up to a one are so many
pub zeros_unique : (a b : ℕ) (x y : List Bool) → replicate a false ++ true ∷ x ≡ replicate b false ++ true ∷ y → (a ≡ b) × (x ≡ y)
zeros_unique zero zero x y e = (refl, tail_of true true x y e)
zeros_unique zero (suc b) x y e = absurd (one_no_zero x (replicate b false ++ true ∷ y) e)
zeros_unique (suc a) zero x y e = absurd (one_no_zero y (replicate a false ++ true ∷ x) (sym e))
zeros_unique (suc a) (suc b) x y e =
    let r = zeros_unique a b x y (tail_of false false (replicate a false ++ true ∷ x) (replicate b false ++ true ∷ y) e) in
    (ap suc r.0, r.1)

-- a one comes before so many zeros
pub one_is_early : (a n : ℕ) (x y : List Bool) → a < n → replicate a false ++ true ∷ x ≡ replicate n false ++ y → ⊥
one_is_early zero zero x y lt e = omega arith
one_is_early zero (suc n) x y lt e = one_no_zero x (replicate n false ++ y) e
one_is_early (suc a) zero x y lt e = omega arith
one_is_early (suc a) (suc n) x y lt e = one_is_early a n x y (omega arith) (tail_of false false (replicate a false ++ true ∷ x) (replicate n false ++ y) e)

same_number : (n v w : ℕ) (x y : List Bool) → v < 2 ^ n → w < 2 ^ n → bits_of n v ++ x ≡ bits_of n w ++ y → (v ≡ w) × (x ≡ y)
same_number n v w x y p q e =
    let a = taken_is n v (bits_of n v ++ x) x p refl in
    let b = taken_is n w (bits_of n v ++ x) y q e in
    (a.0 ∙ sym b.0, a.1 ∙ sym b.1)

pub plain_text : (c : Code) (quotient low : ℕ) (x : List Bool)
    → form_text c (Plain quotient low) ++ x ≡ replicate quotient false ++ true ∷ (bits_of c.k low ++ x)
unfolding form_text
plain_text c quotient low x = append_assoc (replicate quotient false) (true ∷ bits_of c.k low) x

pub escape_text : (c : Code) (n : ℕ) (x : List Bool) → form_text c (Escape n) ++ x ≡ replicate c.limit false ++ (bits_of c.bits n ++ x)
unfolding form_text
escape_text c n x = append_assoc (replicate c.limit false) (bits_of c.bits n) x

pub form_unique : OneForm
form_unique c (Plain u v) (Plain w z) x y p q e =
    let a = zeros_unique u w _ _ (sym (plain_text c u v x) ∙ e ∙ plain_text c w z y) in
    let b = same_number c.k v z x y p.1 q.1 a.1 in
    (rw (a.0, b.0) refl, b.1)
form_unique c (Plain u v) (Escape n) x y p q e =
    absurd (one_is_early u c.limit _ _ p.0 (sym (plain_text c u v x) ∙ e ∙ escape_text c n y))
form_unique c (Escape n) (Plain u v) x y p q e =
    absurd (one_is_early u c.limit _ _ q.0 (sym (plain_text c u v y) ∙ sym e ∙ escape_text c n x))
form_unique c (Escape m) (Escape n) x y p q e =
    let a = append_cancel_left (replicate c.limit false) _ _ (sym (escape_text c m x) ∙ e ∙ escape_text c n y) in
    let b = same_number c.bits m n x y p q a in
    (ap Escape b.0, b.1)

pub form_of-fits : (c : Code) (n : ℕ) → n < 2 ^ c.bits → IsForm c (form_of c n)
unfolding form_of
form_of-fits c n lt =
    elim (cases_lt (n / 2 ^ c.k) c.limit) [
      | inl few ↦ rw (lt-ltb (n / 2 ^ c.k) c.limit few) (few, mod-lt n (pow_pos c.k))
      | inr many ↦ rw (le-ltb (n / 2 ^ c.k) c.limit many) lt
    ]

-- the number of a word
pub spelt-form_of : (c : Code) (n : ℕ) → spelt c (form_of c n) ≡ n
unfolding form_of
spelt-form_of c n =
    elim (cases_lt (n / 2 ^ c.k) c.limit) [
      | inl few ↦ rw (lt-ltb (n / 2 ^ c.k) c.limit few) (shr_split n c.k)
      | inr many ↦ rw (le-ltb (n / 2 ^ c.k) c.limit many) refl
    ]

pub word_unique : OneWord
word_unique c m n x y p q e =
    let f = form_unique c (form_of c m) (form_of c n) x y (form_of-fits c m p) (form_of-fits c n q) e in
    (sym (spelt-form_of c m) ∙ ap (spelt c) f.0 ∙ spelt-form_of c n, f.1)
