-- Products and steps of weights.
use Rattle.std.proofs.Common.{◌≡◌, ℕ, suc, ◌+◌, ◌*◌, ◌^◌, ◌<◌, ◌≤◌, List, ◌∷◌, length, drop, get_or, ℤ, pos, ◌+ℤ◌, ◌*ℤ◌, unsigned_abs, sym, ◌∙◌, arith, w32}
use Rattle.std.proofs.Common.{w64, SFits, to_z, of_z, to_z-of_z, drop-cons, add-one, set, lt-suc_self, length-set, inl, inr, ◌⊎◌, subst}
use Rattle.std.proofs.lemmas.Int.{ints, fits_signed_from_abs, unsigned_abs-mul}
use Rattle.std.proofs.lemmas.Nat.{mul-le}
use Rattle.std.proofs.lemmas.List.{drop-set-lt, get_or-set_other, get_or-set_same}
use Rattle.std.proofs.lemmas.Bool.{cases_eq}
use Rattle.sample_prediction.specs.Bounds.{AllWithin}

pub SFits-small : (z : ℤ) → unsigned_abs z ≤ 2 ^ 21 → SFits w32 z
SFits-small z h = fits_signed_from_abs w32 z (omega arith)

pub SFits-wide : (z : ℤ) → unsigned_abs z ≤ 2 ^ 62 → SFits w64 z
SFits-wide z h = fits_signed_from_abs w64 z (omega arith)

pub SFits-wider : (z : ℤ) → SFits w32 z → SFits w64 z
SFits-wider z f = record { sfits = omega (arith, f.sfits) }

-- a cast from 32 to 64 bits
pub cast_up : (z : ℤ) → SFits w32 z → to_z w64 (of_z w64 (to_z w32 (of_z w32 z))) ≡ z
cast_up z f = rw (to_z-of_z f) (to_z-of_z (SFits-wider z f))

pub product_bound : (w u : ℤ) → unsigned_abs w ≤ 2 ^ 21 → unsigned_abs u ≤ 2 ^ 18 → unsigned_abs (w *ℤ u) ≤ 2 ^ 39
product_bound w u h k = rw (unsigned_abs-mul w u) (mul-le (unsigned_abs w) (unsigned_abs u) (2 ^ 21) (2 ^ 18) h k)

-- the product as the code computes it
pub product_up : (w u : ℤ) → unsigned_abs w ≤ 2 ^ 21 → unsigned_abs u ≤ 2 ^ 18
    → to_z w64 (of_z w64 (to_z w64 (of_z w64 (to_z w32 (of_z w32 w))) *ℤ to_z w64 (of_z w64 (to_z w32 (of_z w32 u))))) ≡ w *ℤ u
product_up w u h k =
    rw (cast_up w (SFits-small w h), cast_up u (SFits-small u (omega arith))) (to_z-of_z (SFits-wide (w *ℤ u) (omega (arith, product_bound w u h k))))

pub sum_bound : (sum x : ℤ) (i : ℕ) → unsigned_abs sum ≤ i * 2 ^ 39 → unsigned_abs x ≤ 2 ^ 39 → unsigned_abs (sum +ℤ x) ≤ (i + 1) * 2 ^ 39
sum_bound sum x i h k = omega (arith, ints)

pub sum_fits : (sum x : ℤ) (i : ℕ) → i < 18 → unsigned_abs sum ≤ i * 2 ^ 39 → unsigned_abs x ≤ 2 ^ 39 → SFits w64 (sum +ℤ x)
sum_fits sum x i l h k = SFits-wide (sum +ℤ x) (omega (arith, sum_bound sum x i h k))

pub same_heads : (a b : ℤ) (xs ys : List ℤ) → a ∷ xs ≡ b ∷ ys → (a ≡ b) × (xs ≡ ys)
same_heads a b xs ys e = (cc, cc)

pub step_kept : (old now : List ℤ) (i : ℕ) (v : ℤ) → i < length now → i < length old → drop i now ≡ drop i old → drop (i + 1) (set now i v) ≡ drop (i + 1) old
step_kept old now i v h k e =
    let s : (get_or now i (pos 0) ∷ drop (suc i) now) ≡ (get_or old i (pos 0) ∷ drop (suc i) old) =
    sym (drop-cons now i (pos 0) h) ∙ e ∙ drop-cons old i (pos 0) k in
    rw add-one (drop-set-lt (suc i) now i v (lt-suc_self i) ∙ (same_heads _ _ _ _ s).1)

pub step_bound : (n : ℕ) (now : List ℤ) (i : ℕ) (v : ℤ) → AllWithin n now → unsigned_abs v ≤ n → AllWithin n (set now i v)
step_bound n now i v h b = λ k l. by_place k (rw length-set at l) (cases_eq k i)
  where
    by_place : (k : ℕ) → k < length now → (k ≡ i) ⊎ (k ≡ i → ⊥) → unsigned_abs (get_or (set now i v) k (pos 0)) ≤ n
    by_place k l (inl e) = rw (e, get_or-set_same now i v (pos 0) (subst (λ j. j < length now) e l)) b
    by_place k l (inr e) = rw (get_or-set_other now i k v (pos 0) e) (h k l)
