-- The update of one weight in words of 32 bits, as it is computed in a lane.
use Rattle.std.proofs.Common.{◌≡◌, ℕ, to_z, of_z, w32, ◌+◌, ◌*◌, ◌^◌, ◌<◌, ◌≤◌, ℤ, pos, negsuc, neg_ℤ, ◌+ℤ◌, ◌-ℤ◌, ◌*ℤ◌, ◌≤ℤ◌, unsigned_abs, int_lt, Bool, true, false, if◌then◌else◌}
use Rattle.std.proofs.Common.{arith, refl, sym, ap, ap₂, ◌∙◌, pow_mono, le_trans}
use Rattle.std.proofs.Math.Pow.{pow-add}
use Rattle.std.specs.Int.{int_min, int_max}
use Rattle.std.proofs.lemmas.Int.{ints, clamps, unsigned_abs-mul}
use Rattle.std.proofs.lemmas.Nat.{mul-le, pow_pos}
use Rattle.lanes.specs.Lanes.{halved}
use Rattle.sample_prediction.specs.Arithmetic.{floor_div, clip}
use Rattle.sample_prediction.specs.Weights.{step, signed_by, weight_min, weight_max}
use Rattle.sample_prediction.proofs.Scaled.{halved_shrinks}
use Rattle.band_lanes.specs.Fours.{opposite_step_of}
use Rattle.band_lanes.proofs.Floors.{halved_is}
use Rattle.band_lanes.proofs.Updates.{not_le, is_le, nearest, times_negative, negative_times}

pub as_is : (f : ℤ) → pos 0 ≤ℤ f → f ≤ℤ pos 16777216 → to_z w32 (of_z w32 f) ≡ f
as_is f h k = omega (arith, ints, h, k)

pub negated : (f : ℤ) → pos 0 ≤ℤ f → f ≤ℤ pos 16777216 → to_z w32 (of_z w32 (pos 0 -ℤ to_z w32 (of_z w32 f))) ≡ neg_ℤ f
negated f h k = omega (arith, ints, h, k)

pub less_one : (f : ℤ) → pos 0 ≤ℤ f → f ≤ℤ pos 16777216 → to_z w32 (of_z w32 (to_z w32 (of_z w32 f) -ℤ pos 1)) ≡ f -ℤ pos 1
less_one f h k = omega (arith, ints, h, k)

-- both the opposite of a step, and small
pub record IsOpposite (exponent own predicted u result : ℤ) : Type 0 where
  pub value : result ≡ opposite_step_of exponent own predicted u
  pub bound : unsigned_abs result ≤ 2 ^ 27

module _ (u own predicted : ℤ) where
  pub lowered_is : (half mask rounding flipped sum result : ℤ) (r by : ℕ) → r ≤ 21 → unsigned_abs u ≤ 2 ^ 18 → half ≡ pos (2 ^ r) → by ≡ r + 1
      → mask ≡ (if int_lt predicted own then negsuc 0 else pos 0) → rounding ≡ (if int_lt predicted own then half else half -ℤ pos 1)
      → (mask ≡ pos 0 → flipped ≡ u) → (mask ≡ negsuc 0 → flipped ≡ negsuc 0 -ℤ u)
      → (unsigned_abs (flipped +ℤ rounding) < 2 ^ 31 → sum ≡ flipped +ℤ rounding) → result ≡ halved sum by → IsOpposite (pos r) own predicted u result
  lowered_is half mask rounding flipped sum result r by few small is by_is m o kept turned added h = go (int_lt predicted own) refl
    where
      top : 2 ^ r ≤ 2 ^ 21
      top = pow_mono few

      some : 0 < 2 ^ r
      some = pow_pos r

      within : unsigned_abs sum ≤ 2 ^ 27 → unsigned_abs result ≤ 2 ^ 27
      within l = rw (h, halved_is sum by) (le_trans (halved_shrinks sum (2 ^ by)) l)

      go : (t : Bool) → int_lt predicted own ≡ t → IsOpposite (pos r) own predicted u result
      go true e =
          let f = turned (m ∙ ap (λ t. if t then negsuc 0 else pos 0) e) in let g = o ∙ ap (λ t. if t then half else half -ℤ pos 1) e in
          let s = added (omega (arith, ints, f, g, is, top, some, small)) in
          let v : sum ≡ neg_ℤ u +ℤ (pos (2 ^ r) -ℤ pos 1) = omega (arith, ints, s, f, g, is) in record {
            value = h ∙ halved_is sum by ∙ ap₂ (λ a n. floor_div a (2 ^ n)) v by_is ∙ nearest u r
                ∙ ap (λ t. neg_ℤ (step (pos r) (signed_by t u))) (sym (not_le own predicted e));
            bound = within (omega (arith, ints, v, top, some, small));
          }
      go false e =
          let f = kept (m ∙ ap (λ t. if t then negsuc 0 else pos 0) e) in let g = o ∙ ap (λ t. if t then half else half -ℤ pos 1) e in
          let s = added (omega (arith, ints, f, g, is, top, some, small)) in
          let v : sum ≡ neg_ℤ (neg_ℤ u) +ℤ (pos (2 ^ r) -ℤ pos 1) = omega (arith, ints, s, f, g, is) in record {
            value = h ∙ halved_is sum by ∙ ap₂ (λ a n. floor_div a (2 ^ n)) v by_is ∙ nearest (neg_ℤ u) r
                ∙ ap (λ t. neg_ℤ (step (pos r) (signed_by t u))) (sym (is_le own predicted e));
            bound = within (omega (arith, ints, v, top, some, small));
          }

  pub raised_is : (factor chosen product : ℤ) (k bits : ℕ) → bits + k ≤ 24 → unsigned_abs u ≤ 2 ^ (bits + 2) → factor ≡ pos (2 ^ k)
      → chosen ≡ (if int_lt predicted own then neg_ℤ factor else factor) → (unsigned_abs (u *ℤ chosen) < 2 ^ 31 → product ≡ u *ℤ chosen)
      → IsOpposite (negsuc k) own predicted u product
  unfolding step
  raised_is factor chosen product k bits few small is c multiplied = go (int_lt predicted own) refl
    where
      room : unsigned_abs u * 2 ^ k ≤ 2 ^ 26
      room =
          let one : unsigned_abs u * 2 ^ k ≤ 2 ^ (bits + 2) * 2 ^ k = mul-le (unsigned_abs u) (2 ^ k) (2 ^ (bits + 2)) (2 ^ k) small (omega arith) in
          let p : 2 ^ (bits + 2) * 2 ^ k ≡ 2 ^ (bits + 2 + k) = sym (pow-add 2 (bits + 2) k) in
          let e : bits + 2 + k ≤ 26 = omega (arith, few) in
          let q : 2 ^ (bits + 2 + k) ≤ 2 ^ 26 = pow_mono e in omega (arith, one, p, q)

      size : (f : ℤ) → unsigned_abs f ≡ 2 ^ k → unsigned_abs (u *ℤ f) ≤ 2 ^ 26
      size f e = rw (unsigned_abs-mul u f, e) room

      go : (t : Bool) → int_lt predicted own ≡ t → IsOpposite (negsuc k) own predicted u product
      go true e =
          let f : chosen ≡ neg_ℤ (pos (2 ^ k)) = c ∙ ap (λ t. if t then neg_ℤ factor else factor) e ∙ ap neg_ℤ is in
          let l = size chosen (ap unsigned_abs f ∙ omega (arith, ints)) in let p = multiplied (omega (arith, l)) in record {
            value = p ∙ ap (λ v. u *ℤ v) f ∙ times_negative u (2 ^ k)
                ∙ ap (λ t. neg_ℤ (step (negsuc k) (signed_by t u))) (sym (not_le own predicted e));
            bound = rw p (omega (arith, l));
          }
      go false e =
          let f : chosen ≡ pos (2 ^ k) = c ∙ ap (λ t. if t then neg_ℤ factor else factor) e ∙ is in
          let l = size chosen (ap unsigned_abs f) in let p = multiplied (omega (arith, l)) in record {
            value = p ∙ ap (λ v. u *ℤ v) f ∙ negative_times u (2 ^ k)
                ∙ ap (λ t. neg_ℤ (step (negsuc k) (signed_by t u))) (sym (is_le own predicted e));
            bound = rw p (omega (arith, l));
          }

-- the range of weights, as it is computed
pub limited_is : (w v limit : ℤ) (omega : ℕ) → 2 ^ (omega + 2) ≤ 2 ^ 21 → 0 < 2 ^ (omega + 2) → limit +ℤ pos 1 ≡ pos (2 ^ (omega + 2)) → v ≡ w
    → int_max (to_z w32 (of_z w32 (negsuc 0 -ℤ to_z w32 (of_z w32 limit)))) (int_min v (to_z w32 (of_z w32 limit))) ≡ clip w (weight_min omega) (weight_max omega)
limited_is w v limit fraction h some e f = omega (arith, ints, clamps, h, some, e, f)
