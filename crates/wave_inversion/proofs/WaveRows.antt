-- Rows of eight lanes, written one lane after another.
use Rattle.std.proofs.Common.{◌≡◌, ◌∙◌, ◌+◌, ◌<◌, ◌≤◌, ◌++◌, ℕ, zero, suc, ℤ, pos, List, [], length, set, get_or, refl, sym, subst, ap, ap₂, arith, inl, inr}
use Rattle.std.proofs.Common.{get_or-set_same, get_or-set_other}
use Rattle.std.proofs.lemmas.Bool.{cases_eq}
use Rattle.lanes.specs.Lanes.{lane}
use Rattle.band_lanes.specs.Rows.{pair_of, weights_of}
use Rattle.band_lanes.proofs.Rows.{weights_more}

-- what holds of the first lanes, and of the one that is written, holds of one lane more
pub lane_set : (P : ℕ → ℤ → Type 0) (i : ℕ) (row : List ℤ) (v : ℤ) → i < length row → P i v → ((k : ℕ) → k < i → P k (lane row k)) → (k : ℕ) → k < i + 1
    → P k (lane (set row i v) k)
lane_set P i row v fits here before k lt = elim (cases_eq k i) [
  | inl e ↦ rw (e, get_or-set_same row i v (pos 0) fits) here
  | inr n ↦ rw (get_or-set_other row i k v (pos 0) n) (before k (omega (arith, lt, n)))
]

same_row_more : (n b : ℕ) (rows others : List (List ℤ)) → n < length rows → n < length others → get_or rows n [] ≡ get_or others n []
    → weights_of n b rows ≡ weights_of n b others → weights_of (n + 1) b rows ≡ weights_of (n + 1) b others
same_row_more n b rows others k l here before =
    weights_more n b rows k ∙ ap₂ (λ v w. v ++ w) before (ap (pair_of b) here) ∙ sym (weights_more n b others l)

none : (b : ℕ) (rows others : List (List ℤ)) → weights_of 0 b rows ≡ weights_of 0 b others
unfolding weights_of
none b rows others = refl

-- weights of a band in the first rows of pairs, if these are the same
pub same_rows : (n b : ℕ) (rows others : List (List ℤ)) → n ≤ length rows → n ≤ length others
    → ((j : ℕ) → j < n → get_or rows j [] ≡ get_or others j []) → weights_of n b rows ≡ weights_of n b others
same_rows zero b rows others k l same = none b rows others
same_rows (suc n) b rows others k l same =
    let more : n + 1 ≡ suc n = omega arith in
    subst (λ m. weights_of m b rows ≡ weights_of m b others) more
    (same_row_more n b rows others (omega (arith, k)) (omega (arith, l)) (same n (omega arith))
    (same_rows n b rows others (omega (arith, k)) (omega (arith, l)) (λ j h. same j (omega (arith, h)))))
