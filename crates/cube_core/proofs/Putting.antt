-- Numbers put down among bytes, and the pieces of a row that are written there.
use Rattle.std.proofs.Common.{◌≡◌, ◌≢◌, ◌⊎◌, ◌+◌, ◌*◌, ◌-◌, ◌<◌, ◌≤◌, ℕ, suc, List, [], ◌∷◌, length, take, drop, drop-cons, length-take, get_or}
use Rattle.std.proofs.Common.{set, refl, sym, ◌∙◌, subst, arith, inl, inr}
use borrow.Rule.Slice.PartMut.{put_mid}
use Rattle.std.proofs.lemmas.List.{get_or-set_same, get_or-set_other, length-set, drop_all, drop-take, length-take-le}
use Rattle.std.proofs.lemmas.Slice.{take-put_mid, take-put_mid_below, drop-put_mid}
use Rattle.std.proofs.Math.Seq.{drop-append_seam}
use Rattle.std.proofs.lemmas.Bool.{cases_eq, cases_lt}
use Rattle.std.proofs.lemmas.Nat.{mul-le}
use Rattle.cube_core.proofs.Words.{Layout, SampleKind}
use Rattle.cube_core.proofs.Words.{bytes_at, SpellOffset}

-- a width that is not one byte
pub two_wide : (bytes width : ℕ) → bytes ≡ width → (width ≡ 1) ⊎ (width ≡ 2) → width ≢ 1 → bytes ≡ 2
two_wide bytes width e (inl one) n = absurd (n one)
two_wide bytes width e (inr two) n = e ∙ two

single : (xs : List ℕ) (i : ℕ) → i < length xs → take 1 (drop i xs) ≡ get_or xs i 0 ∷ []
single xs i lt = rw (drop-cons xs i 0 lt) refl

-- one byte is put down, and no other
pub byte_put : (xs : List ℕ) (i v : ℕ) → i < length xs → take 1 (drop (i * 1) (set xs i v)) ≡ v ∷ []
byte_put xs i v lt = let e : i * 1 ≡ i = omega arith in rw (e, single (set xs i v) i (rw (length-set {A = ℕ}) lt), get_or-set_same xs i v 0 lt) refl

pub byte_kept : (xs : List ℕ) (i v j : ℕ) → j ≢ i → take 1 (drop (j * 1) (set xs i v)) ≡ take 1 (drop (j * 1) xs)
byte_kept xs i v j other = let e : j * 1 ≡ j = omega arith in rw e (elim (cases_lt j (length xs)) [
  | inl lt ↦ single (set xs i v) j (rw (length-set {A = ℕ}) lt) ∙ rw (get_or-set_other xs i j v 0 other) (sym (single xs j lt))
  | inr past ↦ rw (drop_all j xs past, drop_all j (set xs i v) (rw (length-set {A = ℕ}) past)) refl
])

-- two bytes are put down, and no others
pub pair_put : (xs ys : List ℕ) (i k : ℕ) → 2 * i + 2 ≤ length xs → length ys ≡ 2 → take 2 (drop (i * 2) (put_mid (2 * i) k xs ys)) ≡ ys
pair_put xs ys i k fits two =
    let e : i * 2 ≡ 2 * i = omega arith in
    let before : length (take (2 * i) xs) ≡ 2 * i = length-take-le (2 * i) xs (omega arith) in
    rw (e, ← drop-take (2 * i) 2 (put_mid (2 * i) k xs ys), take-put_mid (2 * i) k xs ys (2 * i + 2) (omega arith) (omega arith))
    (rw before at (drop-append_seam (take (2 * i) xs) ys))

pub pair_kept : (xs ys : List ℕ) (i k j : ℕ) → 2 * i + 2 ≤ length xs → length ys ≡ 2 → k ≡ 2 → j ≢ i
    → take 2 (drop (j * 2) (put_mid (2 * i) k xs ys)) ≡ take 2 (drop (j * 2) xs)
pair_kept xs ys i k j fits two e other =
    elim (cases_lt j i) [
      | inl low ↦ rw (
        ← drop-take (j * 2) 2 (put_mid (2 * i) k xs ys),
        ← drop-take (j * 2) 2 xs,
        take-put_mid_below (2 * i) k xs ys (j * 2 + 2) (omega arith) (omega arith),
      ) refl
      | inr high ↦ rw (drop-put_mid (2 * i) k xs ys (j * 2) (omega arith) (omega arith) (two ∙ sym e)) refl
    ]

-- two samples of a piece stand apart
pub apart_by_step : (first step x y : ℕ) → 1 ≤ step → x ≢ y → first + x * step ≢ first + y * step
apart_by_step first step x y some other e =
    elim (cases_lt x y) [
      | inl lt ↦ let p : suc x * step ≤ y * step = mul-le (suc x) step y step lt (omega arith) in omega arith
      | inr le ↦ let lt : suc y ≤ x = omega arith in let p : suc y * step ≤ x * step = mul-le (suc y) step x step lt (omega arith) in omega arith
    ]

-- one more number of a piece is put down
pub given_more : (k : SampleKind) (l : Layout) (hs old new : List ℕ) (at first step x : ℕ) → 1 ≤ step
    → SpellOffset k l (get_or hs (at + x) 0) (bytes_at l new (first + x * step)) → ((i : ℕ) → i ≢ first + x * step → bytes_at l new i ≡ bytes_at l old i)
    → ((j : ℕ) → j < x → SpellOffset k l (get_or hs (at + j) 0) (bytes_at l old (first + j * step))) → (j : ℕ) → j < x + 1
    → SpellOffset k l (get_or hs (at + j) 0) (bytes_at l new (first + j * step))
given_more k l hs old new at first step x some here others before j lt =
    elim (cases_eq j x) [
      | inl e ↦ rw e here
      | inr other ↦ λ fits. others (first + j * step) (apart_by_step first step j x some other) ∙ before j (omega arith) fits
    ]

pub others_more : (l : Layout) (start old new : List ℕ) (first step x : ℕ) → ((i : ℕ) → i ≢ first + x * step → bytes_at l new i ≡ bytes_at l old i)
    → ((i : ℕ) → ((j : ℕ) → j < x → i ≢ first + j * step) → bytes_at l old i ≡ bytes_at l start i)
    → (i : ℕ) → ((j : ℕ) → j < x + 1 → i ≢ first + j * step) → bytes_at l new i ≡ bytes_at l start i
others_more l start old new first step x others before i out = others i (out x (omega arith)) ∙ before i (λ j lt. out j (omega arith))

-- a fact of one more item
pub each_more : (P : ℕ → Type 0) (x : ℕ) → P x → ((j : ℕ) → j < x → P j) → (j : ℕ) → j < x + 1 → P j
each_more P x here before j lt = elim (cases_eq j x) [ inl e ↦ subst P (sym e) here | inr other ↦ before j (omega arith) ]

-- two bytes of a list, which are written over
pub no_more : (xs : List ℕ) (a : ℕ) → a + 2 ≤ length xs → drop 2 (take (a + 2 - a) (drop a xs)) ≡ []
no_more xs a h = drop_all 2 (take (a + 2 - a) (drop a xs)) (omega (arith, length-take (a + 2 - a) (drop a xs)))
