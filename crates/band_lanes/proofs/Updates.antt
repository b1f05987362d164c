-- The update of one weight, as it is computed in a lane.
use Rattle.std.proofs.Common.{◌≡◌, ℕ, zero, suc, to_z, of_z, w16, ◌+◌, ◌*◌, ◌^◌, ◌<◌, ◌≤◌, ℤ, pos, negsuc, neg_ℤ, ◌+ℤ◌, ◌-ℤ◌, ◌*ℤ◌, ◌≤ℤ◌, unsigned_abs, int_lt, int_le, Bool, true, false, if◌then◌else◌}
use Rattle.std.proofs.Common.{arith, refl, sym, ap, ap₂, ◌∙◌, pow_mono, pow-suc, add-one}
use Rattle.std.proofs.Math.Pow.{pow-add}
use Rattle.std.specs.Int.{int_min, int_max}
use Rattle.std.proofs.lemmas.Int.{ints, clamps, unsigned_abs-mul}
use Rattle.std.proofs.lemmas.Nat.{mul-le, pow_pos, div_below}
use Rattle.lanes.specs.Lanes.{halved, held}
use Rattle.sample_prediction.specs.Arithmetic.{floor_div, clip}
use Rattle.sample_prediction.specs.Weights.{step, signed_by, weight_min, weight_max, updated_weight}
use Rattle.sample_prediction.proofs.Floors.{floor_of_sum, half_of_floor}
use Rattle.band_lanes.proofs.Floors.{halved_is, opposite}

pub not_le : (a b : ℤ) → int_lt b a ≡ true → int_le a b ≡ false
not_le a b h = grind (arith, ints)

pub is_le : (a b : ℤ) → int_lt b a ≡ false → int_le a b ≡ true
is_le a b h = grind (arith, ints)

-- a step to the nearest, halves down
pub nearest : (a : ℤ) (r : ℕ) → floor_div (neg_ℤ a +ℤ (pos (2 ^ r) -ℤ pos 1)) (2 ^ (r + 1)) ≡ neg_ℤ (step (pos r) a)
unfolding step
nearest a r =
    let double : 2 ^ (r + 1) ≡ 2 ^ r * 2 = ap (λ k. 2 ^ k) (add-one r) ∙ pow-suc 2 r in rw double (opposite a (2 ^ r) (pow_pos r))

pub times_negative : (a : ℤ) (n : ℕ) → a *ℤ neg_ℤ (pos n) ≡ neg_ℤ (a *ℤ pos n)
times_negative (pos a) zero = omega (arith, ints)
times_negative (pos zero) (suc n) = omega (arith, ints)
times_negative (pos (suc a)) (suc n) = omega (arith, ints)
times_negative (negsuc a) zero = omega (arith, ints)
times_negative (negsuc a) (suc n) = omega (arith, ints)

pub negative_times : (a : ℤ) (n : ℕ) → a *ℤ pos n ≡ neg_ℤ (neg_ℤ a *ℤ pos n)
negative_times (pos zero) n = omega (arith, ints)
negative_times (pos (suc a)) zero = omega (arith, ints)
negative_times (pos (suc a)) (suc n) = omega (arith, ints)
negative_times (negsuc a) zero = omega (arith, ints)
negative_times (negsuc a) (suc n) = omega (arith, ints)

-- small numbers in words of 16 bits
pub as_is : (f : ℤ) → pos 0 ≤ℤ f → f ≤ℤ pos 8192 → to_z w16 (of_z w16 f) ≡ f
as_is f h k = omega (arith, ints, h, k)

pub negated : (f : ℤ) → pos 0 ≤ℤ f → f ≤ℤ pos 8192 → to_z w16 (of_z w16 (pos 0 -ℤ to_z w16 (of_z w16 f))) ≡ neg_ℤ f
negated f h k = omega (arith, ints, h, k)

pub less_one : (f : ℤ) → pos 0 ≤ℤ f → f ≤ℤ pos 8192 → to_z w16 (of_z w16 (to_z w16 (of_z w16 f) -ℤ pos 1)) ≡ f -ℤ pos 1
less_one f h k = omega (arith, ints, h, k)

-- half of a quotient and 1, rounded down
rounded_twice : (z : ℤ) (r : ℕ) → floor_div (floor_div z (2 ^ r) +ℤ pos 1) 2 ≡ floor_div (z +ℤ pos (2 ^ r) *ℤ pos 1) (2 ^ (r + 1))
rounded_twice z r = ap (λ a. floor_div a 2) (sym (floor_of_sum z (pos 1) (2 ^ r) (pow_pos r))) ∙ half_of_floor (z +ℤ pos (2 ^ r) *ℤ pos 1) r

moved_by : (v : ℤ) (n : ℕ) → (v -ℤ pos 1) +ℤ pos n *ℤ pos 1 ≡ v +ℤ (pos n -ℤ pos 1)
moved_by v n = omega (arith, ints)

-- a quotient is at most a number that isn't negative
floor_most : (a : ℤ) (n : ℕ) → 0 < n → a ≤ℤ pos 32766 → floor_div a n ≤ℤ pos 32766
floor_most (pos a) n some h = let l = div_below a n 32767 some (omega (arith, ints, h)) in omega (arith, ints, l)
floor_most (negsuc a) n some h = omega (arith, ints)

module _ (u own predicted : ℤ) where
  -- without a sign, and with one
  pub lowered_is : (half mask rounding flipped sum result : ℤ) (r by : ℕ) → r ≤ 13 → unsigned_abs u < 2 ^ 14 → half ≡ pos (2 ^ r) → by ≡ r + 1
      → mask ≡ (if int_lt predicted own then negsuc 0 else pos 0) → rounding ≡ (if int_lt predicted own then half else half -ℤ pos 1)
      → (mask ≡ pos 0 → flipped ≡ u) → (mask ≡ negsuc 0 → flipped ≡ negsuc 0 -ℤ u)
      → (unsigned_abs (flipped +ℤ rounding) < 2 ^ 15 → sum ≡ flipped +ℤ rounding) → result ≡ halved sum by
      → result ≡ neg_ℤ (step (pos r) (signed_by (int_le own predicted) u))
  lowered_is half mask rounding flipped sum result r by few small is by_is m o kept turned added h = go (int_lt predicted own) refl
    where
      top : 2 ^ r ≤ 2 ^ 13
      top = pow_mono few

      some : 0 < 2 ^ r
      some = pow_pos r

      go : (t : Bool) → int_lt predicted own ≡ t → result ≡ neg_ℤ (step (pos r) (signed_by (int_le own predicted) u))
      go true e =
          let f = turned (m ∙ ap (λ t. if t then negsuc 0 else pos 0) e) in let g = o ∙ ap (λ t. if t then half else half -ℤ pos 1) e in
          let s = added (omega (arith, ints, f, g, is, top, some, small)) in
          let v : sum ≡ neg_ℤ u +ℤ (pos (2 ^ r) -ℤ pos 1) = omega (arith, ints, s, f, g, is) in
          h ∙ halved_is sum by ∙ ap₂ (λ a n. floor_div a (2 ^ n)) v by_is ∙ nearest u r
          ∙ ap (λ t. neg_ℤ (step (pos r) (signed_by t u))) (sym (not_le own predicted e))
      go false e =
          let f = kept (m ∙ ap (λ t. if t then negsuc 0 else pos 0) e) in let g = o ∙ ap (λ t. if t then half else half -ℤ pos 1) e in
          let s = added (omega (arith, ints, f, g, is, top, some, small)) in
          let v : sum ≡ neg_ℤ (neg_ℤ u) +ℤ (pos (2 ^ r) -ℤ pos 1) = omega (arith, ints, s, f, g, is) in
          h ∙ halved_is sum by ∙ ap₂ (λ a n. floor_div a (2 ^ n)) v by_is ∙ nearest (neg_ℤ u) r
          ∙ ap (λ t. neg_ℤ (step (pos r) (signed_by t u))) (sym (is_le own predicted e))

  -- rounded down first, and then to the nearest
  pub deep_lowered_is : (mask less flipped sum whole result : ℤ) (r by : ℕ) → r ≤ 13 → unsigned_abs u < 2 ^ 15 → by ≡ r
      → mask ≡ (if int_lt predicted own then negsuc 0 else pos 0) → less ≡ (if int_lt predicted own then pos 0 else pos 1)
      → (mask ≡ pos 0 → flipped ≡ u) → (mask ≡ negsuc 0 → flipped ≡ negsuc 0 -ℤ u)
      → sum ≡ held (flipped -ℤ less) → whole ≡ halved sum by
      → (whole ≤ℤ pos 32766 → result ≡ halved (whole +ℤ pos 1) 1)
      → result ≡ neg_ℤ (step (pos r) (signed_by (int_le own predicted) u))
  deep_lowered_is mask less flipped sum whole result r by few small by_is m o kept turned taken w h = go (int_lt predicted own) refl
    where
      -- what is left once the signs are known
      done : (v : ℤ) (s : Bool) → sum ≡ v -ℤ pos 1 → v ≡ neg_ℤ (signed_by s u) → (v -ℤ pos 1) ≤ℤ pos 32766
          → result ≡ neg_ℤ (step (pos r) (signed_by s u))
      done v s e f top =
          let some = pow_pos r in
          let q : whole ≡ floor_div (v -ℤ pos 1) (2 ^ r) = w ∙ halved_is sum by ∙ ap₂ (λ a n. floor_div a (2 ^ n)) e by_is in
          let limit : whole ≤ℤ pos 32766 = rw q (floor_most (v -ℤ pos 1) (2 ^ r) some top) in
          h limit ∙ halved_is (whole +ℤ pos 1) 1 ∙ ap (λ a. floor_div (a +ℤ pos 1) 2) q ∙ rounded_twice (v -ℤ pos 1) r
          ∙ ap (λ a. floor_div a (2 ^ (r + 1))) (moved_by v (2 ^ r)) ∙ ap (λ a. floor_div (a +ℤ (pos (2 ^ r) -ℤ pos 1)) (2 ^ (r + 1))) f
          ∙ nearest (signed_by s u) r

      go : (t : Bool) → int_lt predicted own ≡ t → result ≡ neg_ℤ (step (pos r) (signed_by (int_le own predicted) u))
      go true e =
          let f = turned (m ∙ ap (λ t. if t then negsuc 0 else pos 0) e) in let g = o ∙ ap (λ t. if t then pos 0 else pos 1) e in
          done (neg_ℤ u) false (omega (arith, ints, clamps, taken, f, g, small)) refl (omega (arith, ints, small))
          ∙ ap (λ t. neg_ℤ (step (pos r) (signed_by t u))) (sym (not_le own predicted e))
      go false e =
          let f = kept (m ∙ ap (λ t. if t then negsuc 0 else pos 0) e) in let g = o ∙ ap (λ t. if t then pos 0 else pos 1) e in
          done u true (omega (arith, ints, clamps, taken, f, g, small)) (omega (arith, ints)) (omega (arith, ints, small))
          ∙ ap (λ t. neg_ℤ (step (pos r) (signed_by t u))) (sym (is_le own predicted e))

  pub raised_is : (factor chosen product : ℤ) (k bits : ℕ) → bits + k ≤ 13 → unsigned_abs u < 2 ^ (bits + 2) → factor ≡ pos (2 ^ k)
      → chosen ≡ (if int_lt predicted own then neg_ℤ factor else factor) → (unsigned_abs (u *ℤ chosen) < 2 ^ 15 → product ≡ u *ℤ chosen)
      → product ≡ neg_ℤ (step (negsuc k) (signed_by (int_le own predicted) u))
  unfolding step
  raised_is factor chosen product k bits few small is c multiplied = go (int_lt predicted own) refl
    where
      room : unsigned_abs u * 2 ^ k < 2 ^ 15
      room =
          let one : (unsigned_abs u + 1) * 2 ^ k ≤ 2 ^ (bits + 2) * 2 ^ k = mul-le (unsigned_abs u + 1) (2 ^ k) (2 ^ (bits + 2)) (2 ^ k) (omega (arith, small)) (omega arith) in
          let p : 2 ^ (bits + 2) * 2 ^ k ≡ 2 ^ (bits + 2 + k) = sym (pow-add 2 (bits + 2) k) in
          let e : bits + 2 + k ≤ 15 = omega (arith, few) in
          let q : 2 ^ (bits + 2 + k) ≤ 2 ^ 15 = pow_mono e in let s = pow_pos k in omega (arith, one, p, q, s)

      size : (f : ℤ) → unsigned_abs f ≡ 2 ^ k → unsigned_abs (u *ℤ f) < 2 ^ 15
      size f e = rw (unsigned_abs-mul u f, e) room

      go : (t : Bool) → int_lt predicted own ≡ t → product ≡ neg_ℤ (step (negsuc k) (signed_by (int_le own predicted) u))
      go true e =
          let f : chosen ≡ neg_ℤ (pos (2 ^ k)) = c ∙ ap (λ t. if t then neg_ℤ factor else factor) e ∙ ap neg_ℤ is in
          multiplied (size chosen (ap unsigned_abs f ∙ omega (arith, ints))) ∙ ap (λ v. u *ℤ v) f ∙ times_negative u (2 ^ k)
          ∙ ap (λ t. neg_ℤ (step (negsuc k) (signed_by t u))) (sym (not_le own predicted e))
      go false e =
          let f : chosen ≡ pos (2 ^ k) = c ∙ ap (λ t. if t then neg_ℤ factor else factor) e ∙ is in
          multiplied (size chosen (ap unsigned_abs f)) ∙ ap (λ v. u *ℤ v) f ∙ negative_times u (2 ^ k)
          ∙ ap (λ t. neg_ℤ (step (negsuc k) (signed_by t u))) (sym (is_le own predicted e))

-- what is held in 16 bits and then in the range of weights, is held in that range
pub limited_is : (w v limit : ℤ) (omega : ℕ) → 2 ^ (omega + 2) ≤ 2 ^ 15 → 0 < 2 ^ (omega + 2) → limit +ℤ pos 1 ≡ pos (2 ^ (omega + 2)) → v ≡ held w
    → int_max (to_z w16 (of_z w16 (negsuc 0 -ℤ to_z w16 (of_z w16 limit)))) (int_min v (to_z w16 (of_z w16 limit))) ≡ clip w (weight_min omega) (weight_max omega)
limited_is w v limit fraction h some e f = omega (arith, ints, clamps, h, some, e, f)

-- at 16 bits it is nothing more
pub whole_is : (w : ℤ) (omega : ℕ) → omega ≡ 13 → held w ≡ clip w (weight_min omega) (weight_max omega)
whole_is w fraction e = rw e (omega (arith, ints, clamps))

-- a weight with the opposite of its step taken away
pub with_opposite : (omega : ℕ) (exponent : ℤ) (own predicted w u less : ℤ) → less ≡ neg_ℤ (step exponent (signed_by (int_le own predicted) u))
    → clip (w -ℤ less) (weight_min omega) (weight_max omega) ≡ updated_weight omega exponent (int_le own predicted) w u
unfolding updated_weight
with_opposite fraction exponent own predicted w u less e =
    ap (λ x. clip x (weight_min fraction) (weight_max fraction)) (ap (λ x. w -ℤ x) e ∙ less_opposite w (step exponent (signed_by (int_le own predicted) u)))
  where
    less_opposite : (a b : ℤ) → a -ℤ neg_ℤ b ≡ a +ℤ b
    less_opposite a b = omega (arith, ints)
