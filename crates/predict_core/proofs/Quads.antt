-- Components in quads of four.
use Rattle.std.proofs.Common.{◌≡◌, ◌≢◌, ℕ, zero, suc, ◌+◌, ◌-◌, ◌*◌, ◌<◌, ◌≤◌, ◌||◌, ◌==◌, ℤ, pos, Bool, true, false, List, [], ◌∷◌, ◌++◌, map, take, set}
use Rattle.std.proofs.Common.{get_or, length, replicate, arith, refl, sym, ap, inl, inr, ap₂, ◌∙◌, add-one, append_assoc, append-nil}
use Rattle.std.proofs.Math.Seq.{take-suc-set}
use Rattle.std.proofs.lemmas.List.Concat.{flat_map-append}
use Rattle.std.proofs.lemmas.List.{get_or-replicate, get_or_past, length-replicate}
use Rattle.std.proofs.lemmas.Bool.{cases_lt}
use Rattle.std.proofs.lemmas.Bool.Decides.{nat_tests}
use Rattle.cube_core.specs.Image.{Image}
use Rattle.cube_core.specs.Order.{from}
use Rattle.sample_prediction.specs.declared.predictor.Predictor.{Predictor}
use Rattle.predict_core.specs.declared.differences.room.Quad.{Quad}
use Rattle.sample_prediction.specs.Predictor.{previous_bands, component_count}
use Rattle.sample_prediction.specs.Differences.{central_difference, directional_differences, spectral_differences, difference_vector}
use Rattle.sample_prediction.specs.Lines.{line_difference}
use Rattle.predict_core.specs.Rooms.{components_at, quads_of, lower_difference, lower_differences}
use Rattle.sample_prediction.proofs.Directions.{directional_first, reduced_vector_is, full_vector_is, reduced_count, full_count}

-- one quad more
pub components_more : (n : ℕ) (quads : List Quad) (q : Quad) (i : ℕ) → n < length quads
    → components_at (n + 1) (set quads n q) i ≡ components_at n quads i ++ get_or q.places i []
unfolding components_at
components_more n quads q i h =
    rw (add-one, take-suc-set quads n q h)
    (flat_map-append (λ (q : Quad). get_or q.places i []) (take n quads) (q ∷ [])
    ∙ ap (λ xs. components_at n quads i ++ xs) (append-nil (get_or q.places i [])))

pub components_none : (quads : List Quad) (i : ℕ) → components_at 0 quads i ≡ []
unfolding components_at
components_none quads i = refl

pub one_quad : (quads : List Quad) (q : Quad) (i : ℕ) → 0 < length quads → components_at 1 (set quads 0 q) i ≡ get_or q.places i []
one_quad quads q i h = components_more 0 quads q i h ∙ ap (λ us. us ++ get_or q.places i []) (components_none quads i)

from_append : (f : ℕ → ℤ) (a m n : ℕ) → map f (from a (m + n)) ≡ map f (from a m) ++ map f (from (a + m) n)
from_append f a zero n = let e : 0 + n ≡ n = omega arith in let d : a + 0 ≡ a = omega arith in rw (e, d) refl
from_append f a (suc m) n =
    let e : suc m + n ≡ suc (m + n) = omega arith in let d : a + suc m ≡ suc a + m = omega arith in rw (e, d) (ap (λ xs. f a ∷ xs) (from_append f (suc a) m n))

module _ (p : Predictor) (c : Image) (z y x : ℕ) where
  pub lower_append : (k m n : ℕ) → lower_differences p c z y x k (m + n) ≡ lower_differences p c z y x k m ++ lower_differences p c z y x (k + m) n
  unfolding lower_differences
  lower_append k m n = from_append (lower_difference p c z y x) k m n

  pub lower_four : (k : ℕ) → lower_difference p c z y x k ∷ lower_difference p c z y x (k + 1) ∷ lower_difference p c z y x (k + 2)
      ∷ lower_difference p c z y x (k + 3) ∷ [] ≡ lower_differences p c z y x k 4
  unfolding lower_differences
  lower_four k =
      let a : k + 1 ≡ suc k = omega arith in let b : k + 2 ≡ suc (suc k) = omega arith in let d : k + 3 ≡ suc (suc (suc k)) = omega arith in rw (a, b, d) refl

  pub lower_none : (k : ℕ) → previous_bands p z < k → lower_difference p c z y x k ≡ pos 0
  unfolding lower_difference
  lower_none k h = grind (arith, nat_tests)

  pub lower_two : (k : ℕ) → previous_bands p z ≤ k + 1
      → lower_difference p c z y x k ∷ lower_difference p c z y x (k + 1) ∷ pos 0 ∷ pos 0 ∷ [] ≡ lower_differences p c z y x k 4
  lower_two k h =
      let third = lower_none (k + 2) (omega (arith, h)) in let fourth = lower_none (k + 3) (omega (arith, h)) in
      ap₂ (λ u v. lower_difference p c z y x k ∷ lower_difference p c z y x (k + 1) ∷ u ∷ v ∷ []) (sym third) (sym fourth) ∙ lower_four k

  pub lower_one : (k : ℕ) → lower_differences p c z y x k 1 ≡ lower_difference p c z y x k ∷ []
  unfolding lower_differences
  lower_one k = refl

  pub lower_is : (k : ℕ) → k ≤ previous_bands p z → lower_difference p c z y x k ≡ central_difference p c (z - k) y x
  unfolding lower_difference
  lower_is k h = grind (arith, nat_tests)

  lower_zeros : (k n : ℕ) → previous_bands p z < k → lower_differences p c z y x k n ≡ replicate n (pos 0)
  unfolding lower_differences
  lower_zeros k zero h = refl
  lower_zeros k (suc n) h = ap₂ (λ v vs. v ∷ vs) (lower_none k h) (lower_zeros (suc k) n (omega (arith, h)))

  lower_spectral : (n : ℕ) → n ≤ previous_bands p z → lower_differences p c z y x 1 n ≡ spectral_differences p c z y x n
  unfolding spectral_differences lower_differences
  lower_spectral zero h = refl
  lower_spectral (suc n) h =
      let e : suc n ≡ n + 1 = omega arith in let d : 1 + n ≡ suc n = omega arith in ap (λ m. lower_differences p c z y x 1 m) e ∙ lower_append 1 n 1
      ∙ ap₂ (λ us vs. us ++ vs) (lower_spectral n (omega (arith, h))) (ap (λ k. lower_differences p c z y x k 1) d ∙ lower_one (suc n)
      ∙ ap (λ v. v ∷ []) (lower_is (suc n) h))

  -- all bands that are looked at, and zeros
  pub lower_padded : (n : ℕ) → previous_bands p z ≤ n
      → lower_differences p c z y x 1 n ≡ spectral_differences p c z y x (previous_bands p z) ++ replicate (n - previous_bands p z) (pos 0)
  lower_padded n h =
      let e : n ≡ previous_bands p z + (n - previous_bands p z) = omega (arith, h) in
      ap (λ m. lower_differences p c z y x 1 m) e ∙ lower_append 1 (previous_bands p z) (n - previous_bands p z)
      ∙ ap₂ (λ us vs. us ++ vs) (lower_spectral (previous_bands p z) (omega arith))
      (lower_zeros (1 + previous_bands p z) (n - previous_bands p z) (omega arith))

  pub reduced_components : (count : ℕ) (xs : List ℤ) → p.reduced ≡ true → count ≡ component_count p z
      → xs ≡ lower_differences p c z y x 1 (4 * (quads_of count - 0))
      → xs ≡ difference_vector p c z y x ++ replicate (4 * quads_of count - count) (pos 0)
  reduced_components count xs r e h =
      let n : count ≡ previous_bands p z = e ∙ reduced_count p z r in let s : 4 * (quads_of count - 0) ≡ 4 * quads_of count = omega arith in
      h ∙ ap (λ m. lower_differences p c z y x 1 m) s ∙ lower_padded (4 * quads_of count) (omega (arith, n))
      ∙ ap₂ (λ us m. us ++ replicate (4 * quads_of count - m) (pos 0)) (sym (reduced_vector_is p c z y x r)) (sym n)

  pub full_components : (count : ℕ) (xs : List ℤ) → p.reduced ≡ false → count ≡ component_count p z
      → xs ≡ (directional_differences p c z y x ++ lower_differences p c z y x 1 1) ++ lower_differences p c z y x 2 (4 * (quads_of count - 1))
      → xs ≡ difference_vector p c z y x ++ replicate (4 * quads_of count - count) (pos 0)
  full_components count xs r e h =
      let n : count ≡ 3 + previous_bands p z = e ∙ full_count p z r in
      let m : 4 * quads_of count - count ≡ 1 + 4 * (quads_of count - 1) - previous_bands p z = omega (arith, n) in
      h ∙ append_assoc (directional_differences p c z y x) (lower_differences p c z y x 1 1) (lower_differences p c z y x 2 (4 * (quads_of count - 1)))
      ∙ ap (λ vs. directional_differences p c z y x ++ vs) (sym (lower_append 1 1 (4 * (quads_of count - 1)))
      ∙ lower_padded (1 + 4 * (quads_of count - 1)) (omega (arith, n)))
      ∙ sym (append_assoc (directional_differences p c z y x) (spectral_differences p c z y x (previous_bands p z))
      (replicate (1 + 4 * (quads_of count - 1) - previous_bands p z) (pos 0)))
      ∙ ap₂ (λ us k. us ++ replicate k (pos 0)) (sym (full_vector_is p c z y x r)) (sym m)

pub zero_at : (n i : ℕ) → ◌≡◌ {A = ℕ} (get_or (replicate n 0) i 0) 0
zero_at n i =
    elim (cases_lt i n) [
      | inl h ↦ get_or-replicate n i 0 0 h
      | inr h ↦ get_or_past (replicate n 0) i 0 (let e = length-replicate {A = ℕ} n 0 in omega (arith, e))
    ]

-- the difference of empty lines
pub empty_difference : (column : Bool) (current upper : List ℕ) (i : ℕ) → current ≡ replicate 66 0 → upper ≡ replicate 66 0
    → line_difference column current upper i ≡ pos 0
empty_difference true current upper i a b = rw (a, b, zero_at 66 (i + 1)) refl
empty_difference false current upper i a b = rw (a, b, zero_at 66 i, zero_at 66 (i + 1), zero_at 66 (i + 2)) refl

-- a quad after those that are there
pub quads_next : (p : Predictor) (c : Image) (z y x first nearest q i : ℕ) (heads : List ℤ) (quads : List Quad) (v : Quad) → first ≤ q → q < length quads
    → components_at q quads i ≡ heads ++ lower_differences p c z y x nearest (4 * (q - first))
    → get_or v.places i [] ≡ lower_differences p c z y x (nearest + 4 * (q - first)) 4
    → components_at (q + 1) (set quads q v) i ≡ heads ++ lower_differences p c z y x nearest (4 * (q + 1 - first))
quads_next p c z y x first nearest q i heads quads v l h a b =
    let e : 4 * (q + 1 - first) ≡ 4 * (q - first) + 4 = omega (arith, l) in components_more q quads v i h ∙ ap₂ (λ us vs. us ++ vs) a b
    ∙ append_assoc heads (lower_differences p c z y x nearest (4 * (q - first))) (lower_differences p c z y x (nearest + 4 * (q - first)) 4)
    ∙ ap (λ vs. heads ++ vs) (sym (lower_append p c z y x nearest (4 * (q - first)) 4) ∙ ap (λ n. lower_differences p c z y x nearest n) (sym e))

pub quads_begun : (p : Predictor) (c : Image) (z y x first nearest : ℕ) (heads : List ℤ)
    → heads ≡ heads ++ lower_differences p c z y x nearest (4 * (first - first))
unfolding lower_differences
quads_begun p c z y x first nearest heads = let e : 4 * (first - first) ≡ 0 = omega arith in rw e (sym (append-nil heads))

pub at_top : (column : Bool) (y : ℕ) → y ≡ 0 → (column || y == 0) ≡ true
at_top column y h = grind (arith, nat_tests)

pub under_top : (column : Bool) (y : ℕ) → y ≢ 0 → (column || y == 0) ≡ column
under_top column y h = grind (arith, nat_tests)

-- the first quad, from what its loop wrote: in the first row, at its left end, and inside
module _ (p : Predictor) (c : Image) (z y x : ℕ) (a b d e : ℤ) (out : List ℤ) (below : e ≡ lower_difference p c z y x 1) where
  pub first_at_top : y ≡ 0 → a ≡ pos 0 → b ≡ pos 0 → d ≡ pos 0 → out ≡ a ∷ b ∷ d ∷ e ∷ []
      → out ≡ directional_differences p c z y x ++ lower_differences p c z y x 1 1
  first_at_top top f g k h = h ∙ rw (f, g, k, below, directional_first p c z y x top, lower_one p c z y x 1) refl

  pub first_under : directional_differences p c z y x ≡ a ∷ b ∷ d ∷ [] → out ≡ a ∷ b ∷ d ∷ e ∷ []
      → out ≡ directional_differences p c z y x ++ lower_differences p c z y x 1 1
  first_under f h = h ∙ rw (below, f, lower_one p c z y x 1) refl
