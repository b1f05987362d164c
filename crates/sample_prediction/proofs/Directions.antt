-- The directional differences, case by case.
use Rattle.std.proofs.Common.{◌≡◌, ◌≢◌, ◌+◌, ◌-◌, ◌==◌, ◌<◌, ◌≤◌, ℕ, ℤ, pos, ◌+ℤ◌, ◌-ℤ◌, ◌*ℤ◌, true, false, List, [], ◌∷◌, ◌++◌, length, replicate, arith, refl}
use Rattle.std.proofs.Common.{◌∙◌, unsigned_abs, zero, suc, set, take, drop}
use Rattle.std.proofs.Math.Seq.{take-append_seam, drop-append_seam}
use Rattle.std.proofs.lemmas.List.{get_or-replicate, length-replicate}
use Rattle.sample_prediction.specs.Bounds.{AllWithin}
use Rattle.std.proofs.lemmas.Int.{ints}
use Rattle.std.proofs.lemmas.Bool.Decides.{nat_tests}
use Rattle.cube_core.specs.Kind.{smin}
use Rattle.cube_core.specs.Image.{Image, sample_at}
use Rattle.sample_prediction.specs.declared.predictor.Predictor.{Predictor}
use Rattle.sample_prediction.specs.Differences.{directional_differences, spectral_differences, difference_vector, difference_from}
use Rattle.sample_prediction.specs.OffsetSum.{offset_difference, IsWest}
use Rattle.sample_prediction.specs.Predictor.{previous_bands, component_count}

pub directional_first : (p : Predictor) (c : Image) (z y x : ℕ) → y ≡ 0 → directional_differences p c z y x ≡ pos 0 ∷ pos 0 ∷ pos 0 ∷ []
unfolding directional_differences
directional_first p c z y x e = rw e refl

pub directional_left : (p : Predictor) (c : Image) (z y x : ℕ) → y ≢ 0 → x ≡ 0
    → directional_differences p c z y x ≡ difference_from p c z y x (sample_at c z (y - 1) x) ∷ difference_from p c z y x (sample_at c z (y - 1) x)
    ∷ difference_from p c z y x (sample_at c z (y - 1) x) ∷ []
unfolding directional_differences
directional_left p c z y x n h = grind (arith, nat_tests)

pub directional_inside : (p : Predictor) (c : Image) (z y x : ℕ) → y ≢ 0 → x ≢ 0
    → directional_differences p c z y x ≡ difference_from p c z y x (sample_at c z (y - 1) x) ∷ difference_from p c z y x (sample_at c z y (x - 1))
    ∷ difference_from p c z y x (sample_at c z (y - 1) (x - 1)) ∷ []
unfolding directional_differences
directional_inside p c z y x n h = grind (arith, nat_tests)

pub directional_length : (p : Predictor) (c : Image) (z y x : ℕ) → length (directional_differences p c z y x) ≡ 3
unfolding directional_differences
directional_length p c z y x = grind (arith, nat_tests)

-- a difference from offsets
pub difference_is : (low sample s d : ℤ) (offset sum : ℕ) → sample ≡ low +ℤ pos offset → s ≡ pos 4 *ℤ low +ℤ pos sum → d ≡ offset_difference offset sum
    → pos 4 *ℤ sample -ℤ s ≡ d
difference_is low sample s d offset sum e f g = omega (arith, ints)

pub reduced_vector_is : (p : Predictor) (c : Image) (z y x : ℕ) → p.reduced ≡ true
    → difference_vector p c z y x ≡ spectral_differences p c z y x (previous_bands p z)
unfolding difference_vector
reduced_vector_is p c z y x h = rw h refl

pub full_vector_is : (p : Predictor) (c : Image) (z y x : ℕ) → p.reduced ≡ false
    → difference_vector p c z y x ≡ directional_differences p c z y x ++ spectral_differences p c z y x (previous_bands p z)
unfolding difference_vector
full_vector_is p c z y x h = rw h refl

pub reduced_count : (p : Predictor) (z : ℕ) → p.reduced ≡ true → component_count p z ≡ previous_bands p z
reduced_count p z h = rw h refl

pub full_count : (p : Predictor) (z : ℕ) → p.reduced ≡ false → component_count p z ≡ 3 + previous_bands p z
full_count p z h = rw h refl

pub heads_taken : (xs ys : List ℤ) (n : ℕ) → length xs ≡ n → take n (xs ++ ys) ≡ xs
heads_taken xs ys n e = rw (← e) (take-append_seam xs ys)

pub heads_dropped : (xs ys : List ℤ) (n : ℕ) → length xs ≡ n → drop n (xs ++ ys) ≡ ys
heads_dropped xs ys n e = rw (← e) (drop-append_seam xs ys)

pub three_written : (out : List ℤ) (a b d : ℤ) → 3 ≤ length out → set (set (set out 0 a) 1 b) 2 d ≡ a ∷ b ∷ d ∷ drop 3 out
three_written [] a b d l = absurd (omega (arith, l))
three_written (o ∷ []) a b d l = absurd (omega (arith, l))
three_written (o ∷ p ∷ []) a b d l = absurd (omega (arith, l))
three_written (o ∷ p ∷ q ∷ out) a b d l = refl

pub three_over : (n : ℕ) (out : List ℤ) (a b d : ℤ) → unsigned_abs a ≤ n → unsigned_abs b ≤ n → unsigned_abs d ≤ n → AllWithin n out
    → AllWithin n (a ∷ b ∷ d ∷ drop 3 out)
three_over n out a b d h k l w zero m = h
three_over n out a b d h k l w (suc zero) m = k
three_over n out a b d h k l w (suc (suc zero)) m = l
three_over n [] a b d h k l w (suc (suc (suc i))) m = absurd (omega (arith, m))
three_over n (o ∷ []) a b d h k l w (suc (suc (suc i))) m = absurd (omega (arith, m))
three_over n (o ∷ p ∷ []) a b d h k l w (suc (suc (suc i))) m = absurd (omega (arith, m))
three_over n (o ∷ p ∷ q ∷ out) a b d h k l w (suc (suc (suc i))) m = w (suc (suc (suc i))) (omega (arith, m))

pub zeros_within : (n m : ℕ) → AllWithin n (replicate m (pos 0))
zeros_within n m i l =
    rw (get_or-replicate m i (pos 0) (pos 0) (let e : i < length (replicate m (pos 0)) = l in rw (length-replicate m (pos 0)) at e)) (omega arith)

module _ (p : Predictor) (c : Image) (z y x : ℕ) (out new : List ℤ) where
  pub reduced_filled : p.reduced ≡ true
      → new ≡ take 0 (replicate 18 (pos 0)) ++ spectral_differences p c z y x (previous_bands p z) ++ replicate (18 - 0 - previous_bands p z) (pos 0)
      → new ≡ difference_vector p c z y x ++ replicate (18 - component_count p z) (pos 0)
  reduced_filled h e =
      let s : 18 - 0 - previous_bands p z ≡ 18 - previous_bands p z = omega arith in e ∙ rw (reduced_vector_is p c z y x h, reduced_count p z h, s) refl

  pub full_filled : p.reduced ≡ false → out ≡ directional_differences p c z y x ++ replicate 15 (pos 0)
      → new ≡ take 3 out ++ spectral_differences p c z y x (previous_bands p z) ++ replicate (18 - 3 - previous_bands p z) (pos 0)
      → new ≡ difference_vector p c z y x ++ replicate (18 - component_count p z) (pos 0)
  full_filled h d e =
      let s : 18 - 3 - previous_bands p z ≡ 18 - (3 + previous_bands p z) = omega arith in
      let t : take 3 out ≡ directional_differences p c z y x =
      rw d (heads_taken (directional_differences p c z y x) (replicate 15 (pos 0)) 3 (directional_length p c z y x)) in
      e ∙ rw (t, full_vector_is p c z y x h, full_count p z h, s) refl

  pub full_clear : out ≡ directional_differences p c z y x ++ replicate 15 (pos 0) → drop 3 out ≡ replicate (18 - 3) (pos 0)
  full_clear d = rw d (heads_dropped (directional_differences p c z y x) (replicate 15 (pos 0)) 3 (directional_length p c z y x))

-- ---- the sample to the west, or to the north in the first column

pub west_inside : (c : Image) (z y x west : ℕ) → x ≢ 0 → IsWest c z y x west → sample_at c z y (x - 1) ≡ smin c.kind +ℤ pos west
west_inside c z y x west n h = let no : (x == 0) ≡ false = grind (arith, nat_tests) in rw no at h

pub west_left : (c : Image) (z y x west : ℕ) → x ≡ 0 → IsWest c z y x west → sample_at c z (y - 1) x ≡ smin c.kind +ℤ pos west
west_left c z y x west e h = let yes : (x == 0) ≡ true = grind (arith, nat_tests) in let same : x - 1 ≡ x = omega (arith, e) in rw (yes, same) at h

pub is_west : (c : Image) (z y x west : ℕ) → x ≢ 0 → sample_at c z y (x - 1) ≡ smin c.kind +ℤ pos west → IsWest c z y x west
is_west c z y x west n h = let no : (x == 0) ≡ false = grind (arith, nat_tests) in rw no h
