-- Weights and differences in a room whose rest is 0.
use Rattle.std.proofs.Common.{◌≡◌, ◌≢◌, ◌⊎◌, ◌-◌, ◌≤◌, ℕ, zero, suc, ℤ, pos, ◌+ℤ◌, ◌-ℤ◌, ◌*ℤ◌, Bool, List, [], ◌∷◌, ◌++◌, length, take, replicate}
use Rattle.std.proofs.Common.{arith, refl, ◌∙◌, sym, ap, inl, inr, length-append, negsuc, ◌≤ℤ◌, int_lt, to_z, of_z, w32}
use Rattle.std.proofs.lemmas.Int.{ints}
use Rattle.std.proofs.lemmas.Bool.{cases_Bool}
use Rattle.std.proofs.lemmas.Bool.Decides.{nat_tests}
use Rattle.cube_core.specs.Kind.{SampleKind, smid}
use Rattle.cube_core.specs.Image.{Image, sample_at}
use Rattle.sample_prediction.specs.declared.predictor.Predictor.{Predictor}
use Rattle.sample_prediction.specs.Predictor.{previous_bands, component_count}
use Rattle.sample_prediction.specs.LocalSum.{local_sum}
use Rattle.sample_prediction.specs.Differences.{directional_differences, difference_vector}
use Rattle.sample_prediction.specs.Weights.{updated_weights, updated_weight}
use Rattle.sample_prediction.specs.Prediction.{inner_product, scaled_by, scaled_there, first_scaled}
use Rattle.sample_prediction.proofs.Filling.{spectral_length}
use Rattle.sample_prediction.proofs.Directions.{reduced_vector_is, full_vector_is, directional_length, reduced_count, full_count}

product_with_zeros : (ws : List ℤ) (m : ℕ) → inner_product ws (replicate m (pos 0)) ≡ pos 0
unfolding inner_product
product_with_zeros [] m = refl
product_with_zeros (w ∷ ws) zero = refl
product_with_zeros (w ∷ ws) (suc m) = let e = product_with_zeros ws m in rw e (zero_of w)
  where
    zero_of : (w : ℤ) → w *ℤ pos 0 +ℤ pos 0 ≡ pos 0
    zero_of w = omega (arith, ints)

-- what is weighed by nothing adds nothing
pub padded_product : (ws us : List ℤ) (m : ℕ) → inner_product ws (us ++ replicate m (pos 0)) ≡ inner_product (take (length us) ws) us
unfolding inner_product
padded_product [] [] m = refl
padded_product [] (u ∷ us) m = refl
padded_product (w ∷ ws) [] m = product_with_zeros (w ∷ ws) m
padded_product (w ∷ ws) (u ∷ us) m = ap (λ s. w *ℤ u +ℤ s) (padded_product ws us m)

-- and the weights in use move as if they stood alone
pub padded_update : (fraction : ℕ) (exponent : ℤ) (negative : Bool) (ws us zs : List ℤ)
    → take (length us) (updated_weights fraction exponent negative ws (us ++ zs)) ≡ updated_weights fraction exponent negative (take (length us) ws) us
unfolding updated_weights
padded_update f e n [] [] zs = refl
padded_update f e n [] (u ∷ us) zs = refl
padded_update f e n (w ∷ ws) [] zs = refl
padded_update f e n (w ∷ ws) (u ∷ us) zs = ap (λ xs. updated_weight f e n w u ∷ xs) (padded_update f e n ws us zs)

pub vector_length : (p : Predictor) (c : Image) (z y x : ℕ) → length (difference_vector p c z y x) ≡ component_count p z
vector_length p c z y x =
    let d = directional_length p c z y x in let s = spectral_length p c z y x (previous_bands p z) in elim (cases_Bool p.reduced) [
      | inl e ↦ ap length (reduced_vector_is p c z y x e) ∙ s ∙ sym (reduced_count p z e)
      | inr e ↦ (let k = full_count p z e in
          ap length (full_vector_is p c z y x e) ∙ length-append (directional_differences p c z y x) _ ∙ omega (arith, d, s, k))
    ]

pub scaled_there_is : (p : Predictor) (c : Image) (k : SampleKind) (z y x : ℕ) (sum scaled : ℤ) (ws : List ℤ) → c.kind ≡ k → sum ≡ local_sum p c z y x
    → scaled ≡ scaled_by p k sum ws (difference_vector p c z y x) → scaled ≡ scaled_there p c z y x ws
unfolding scaled_there scaled_by
scaled_there_is p c k z y x sum scaled ws a b e = e ∙ rw (b, a) refl

pub first_from_middle : (p : Predictor) (c : Image) (z : ℕ) → (p.previous ≡ 0) ⊎ ((p.previous ≡ 0 → ⊥) × (z ≡ 0)) → first_scaled p c z ≡ pos 2 *ℤ smid c.kind
unfolding first_scaled
first_from_middle p c z h = grind (arith, nat_tests)

pub first_from_below : (p : Predictor) (c : Image) (z : ℕ) → p.previous ≢ 0 → z ≢ 0 → first_scaled p c z ≡ pos 2 *ℤ sample_at c (z - 1) 0 0
unfolding first_scaled
first_from_below p c z h k = grind (arith, nat_tests)

-- a local sum of samples, as the code computes it from that of offsets
pub whole_sum : (low : ℤ) (sum : ℕ) → (negsuc 32767 ≤ℤ low) × (low ≤ℤ pos 0) → sum ≤ 262140
    → to_z w32 (of_z w32 (to_z w32 (of_z w32 (pos 4 *ℤ to_z w32 (of_z w32 low))) +ℤ to_z w32 sum)) ≡ pos 4 *ℤ low +ℤ pos sum
whole_sum low sum h k = omega (arith, ints, h.0, h.1)

-- whether an error is negative
pub error_test : (a b : ℤ) → int_lt (a -ℤ b) (pos 0) ≡ int_lt a b
error_test a b = grind (arith, ints)
