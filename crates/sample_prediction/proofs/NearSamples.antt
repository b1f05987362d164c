-- Samples whose numbers are at most twice the distance of their predictions from the nearer limit of the range.
use Rattle.std.proofs.Common.{◌≡◌, ◌≢◌, ◌+◌, ◌*◌, ◌/◌, ◌%◌, ◌≤◌, ℕ, ℤ, pos, negsuc, neg_ℤ, ◌+ℤ◌, ◌-ℤ◌, ◌*ℤ◌, ◌≤ℤ◌, int_lt, unsigned_abs, true}
use Rattle.std.proofs.Common.{false, arith, refl}
use Rattle.std.proofs.lemmas.Int.{ints}
use Rattle.std.proofs.lemmas.Bool.Decides.{nat_tests}
use Rattle.sample_prediction.specs.Arithmetic.{floor_div}
use Rattle.sample_prediction.specs.Residual.{theta_between}
use Rattle.sample_prediction.specs.Mapping.{error_of, unmapped_between}
use Rattle.sample_prediction.proofs.OneSample.{unmapped_is}

even_error : (theta below parity n : ℕ) → n ≤ 2 * theta → (n + parity) % 2 ≡ 0 → pos ((n + 1) / 2) ≡ error_of theta below parity n
even_error theta below parity n l e = grind (arith, nat_tests)

odd_error : (theta below parity n : ℕ) → n ≤ 2 * theta → (n + parity) % 2 ≢ 0 → neg_ℤ (pos ((n + 1) / 2)) ≡ error_of theta below parity n
odd_error theta below parity n l e = grind (arith, nat_tests)

-- a scaled prediction is twice the prediction, and its parity
pub with_parity : (scaled predicted : ℤ) → predicted ≡ floor_div scaled 2 → scaled ≡ pos 2 *ℤ predicted +ℤ pos (unsigned_abs scaled % 2)
with_parity (pos a) predicted e = omega (arith, ints, e)
with_parity (negsuc a) predicted e = omega (arith, ints, e)

module _ (low high scaled predicted : ℤ) (n : ℕ) (half : predicted ≡ floor_div scaled 2) (least : low ≤ℤ (predicted -ℤ pos ((n + 1) / 2)))
    (most : (predicted +ℤ pos ((n + 1) / 2)) ≤ℤ high) where
  near : n ≤ 2 * theta_between low high predicted
  near = omega (arith, ints, least, most)

  pub even_sample : (n + unsigned_abs scaled) % 2 ≡ 0 → predicted +ℤ pos ((n + 1) / 2) ≡ unmapped_between low high scaled n
  even_sample e = unmapped_is low high scaled predicted _ _ _ _ n half refl refl refl (even_error _ _ _ n near e)

  pub odd_sample : (n + unsigned_abs scaled) % 2 ≢ 0 → predicted -ℤ pos ((n + 1) / 2) ≡ unmapped_between low high scaled n
  odd_sample e = unmapped_is low high scaled predicted _ _ _ _ n half refl refl refl (odd_error _ _ _ n near e)

  pub even_sign : (n + unsigned_abs scaled) % 2 ≡ 0 → false ≡ int_lt (pos 2 *ℤ unmapped_between low high scaled n -ℤ scaled) (pos 0)
  even_sign e = let w = with_parity scaled predicted half in let s = even_sample e in grind (arith, ints, w, s, e)

  pub odd_sign : (n + unsigned_abs scaled) % 2 ≢ 0 → true ≡ int_lt (pos 2 *ℤ unmapped_between low high scaled n -ℤ scaled) (pos 0)
  odd_sign e = let w = with_parity scaled predicted half in let s = odd_sample e in grind (arith, ints, w, s, e)
