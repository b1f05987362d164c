-- The steps of the weights in words of 32 bits.
use Rattle.std.proofs.Common.{◌≡◌, ℕ, ◌+◌, ◌-◌, ◌*◌, ◌%◌, ◌^◌, ◌≤◌, ℤ, pos, negsuc, neg_ℤ, ◌+ℤ◌, ◌-ℤ◌, ◌*ℤ◌, ◌≤ℤ◌, unsigned_abs, Bool, true, false}
use Rattle.std.proofs.Common.{if◌then◌else◌, List, refl, sym, ap, ◌∙◌, arith, w32, SFits, to_z, pow_mono, le_trans, div-one}
use Rattle.std.proofs.Math.Pow.{pow-add}
use Rattle.std.specs.Int.{int_min, int_max}
use Rattle.std.proofs.lemmas.Int.{ints, clamps, to_z_pos, fits_signed_from_abs, unsigned_abs-mul}
use Rattle.std.proofs.lemmas.Nat.{one_shl, pow_below, mul-le}
use Rattle.sample_prediction.specs.Arithmetic.{floor_div, clip}
use Rattle.sample_prediction.specs.Weights.{step, signed_by, weight_min, weight_max, updated_weight}
use Rattle.sample_prediction.specs.Bounds.{AllWithin}
use Rattle.sample_prediction.proofs.Scaled.{halved_shrinks}

-- one bit put at place k of a word
pub bit_in_word : (k : ℕ) → k ≤ 30 → to_z w32 ((1 * 2 ^ k) % 2 ^ 32) ≡ pos (2 ^ k)
bit_in_word k h = rw (one_shl k 32 (omega arith)) (to_z_pos w32 (2 ^ k) (pow_below k 31 (omega arith)))

pub SFits-26 : (a : ℤ) → unsigned_abs a ≤ 2 ^ 26 → SFits w32 a
SFits-26 a h = fits_signed_from_abs w32 a (omega arith)

-- what a shift to the left makes of a difference
pub raised_within : (a : ℤ) (k : ℕ) → k ≤ 26 → unsigned_abs a ≤ 2 ^ (26 - k) → unsigned_abs (a *ℤ pos (2 ^ k)) ≤ 2 ^ 26
raised_within a k l h =
    let s : (26 - k) + k ≡ 26 = omega arith in let p : 2 ^ (26 - k) * 2 ^ k ≡ 2 ^ 26 = sym (pow-add 2 (26 - k) k) ∙ ap (λ n. 2 ^ n) s in
    let q : unsigned_abs a * 2 ^ k ≤ 2 ^ (26 - k) * 2 ^ k = mul-le (unsigned_abs a) (2 ^ k) (2 ^ (26 - k)) (2 ^ k) h (omega arith) in
    rw (unsigned_abs-mul a (pos (2 ^ k))) (omega (arith, p, q))

-- both kinds of steps in one form: raised by some bits, and halved by others with a half added
whole : (a : ℤ) → floor_div a 1 ≡ a
whole (pos n) = ap pos (div-one n)
whole (negsuc n) = ap negsuc (div-one n)

pub raising_is : (a : ℤ) (k : ℕ) → floor_div (a *ℤ pos (2 ^ k) +ℤ pos 0) (2 ^ 0) ≡ step (negsuc k) a
unfolding step
raising_is a k = whole (a *ℤ pos (2 ^ k) +ℤ pos 0) ∙ nothing (a *ℤ pos (2 ^ k))
  where
    nothing : (b : ℤ) → b +ℤ pos 0 ≡ b
    nothing b = omega (arith, ints)

pub halving_is : (a : ℤ) (k : ℕ) → floor_div (a *ℤ pos (2 ^ 0) +ℤ pos (2 ^ k)) (2 ^ (k + 1)) ≡ step (pos k) a
unfolding step
halving_is a k = ap (λ b. floor_div (b +ℤ pos (2 ^ k)) (2 ^ (k + 1))) (once a)
  where
    once : (b : ℤ) → b *ℤ pos 1 ≡ b
    once b = omega (arith, ints)

pub half_added : (a half : ℤ) (k : ℕ) → k ≤ 22 → unsigned_abs a ≤ 2 ^ (26 - k) → pos 0 ≤ℤ half → half ≤ℤ pos 2097152
    → unsigned_abs (a *ℤ pos (2 ^ k) +ℤ half) ≤ 2 ^ 27
half_added a half k l h b d = let r = raised_within a k (omega arith) h in added (a *ℤ pos (2 ^ k)) r
  where
    added : (v : ℤ) → unsigned_abs v ≤ 2 ^ 26 → unsigned_abs (v +ℤ half) ≤ 2 ^ 27
    added v r = omega (arith, ints, r, b, d)

pub SFits-27 : (a : ℤ) → unsigned_abs a ≤ 2 ^ 27 → SFits w32 a
SFits-27 a h = fits_signed_from_abs w32 a (omega arith)

pub stepped_within : (a : ℤ) (d : ℕ) → unsigned_abs a ≤ 2 ^ 27 → unsigned_abs (floor_div a d) ≤ 2 ^ 27
stepped_within a d h = le_trans (halved_shrinks a d) h

pub limit_within : (fraction : ℕ) → fraction ≤ 19 → 2 ^ (fraction + 2) ≤ 2 ^ 21
limit_within fraction h = let k : fraction + 2 ≤ 21 = omega arith in pow_mono k

-- the bounds of a weight, as the code computes them
pub held_is : (fraction : ℕ) (weight moved r : ℤ) → r ≡ clip (weight +ℤ moved) (pos 0 -ℤ pos (2 ^ (fraction + 2))) (pos (2 ^ (fraction + 2)) -ℤ pos 1)
    → r ≡ clip (weight +ℤ moved) (weight_min fraction) (weight_max fraction)
held_is fraction weight moved r e = e ∙ ap (λ low. clip (weight +ℤ moved) low (pos (2 ^ (fraction + 2)) -ℤ pos 1)) (minus (2 ^ (fraction + 2)))
  where
    minus : (n : ℕ) → pos 0 -ℤ pos n ≡ neg_ℤ (pos n)
    minus n = omega (arith, ints)

-- a number held between two bounds, first from above
pub clipped_is : (a low high m r : ℤ) → m ≡ int_min a high → r ≡ int_max m low → r ≡ clip a low high
clipped_is a low high m r e f = omega (arith, ints, clamps)

pub clipped_low : (a low high r : ℤ) → r ≡ clip a low high → low ≤ℤ r
clipped_low a low high r e = omega (arith, ints, clamps)

pub clipped_high : (a low high r : ℤ) → low ≤ℤ high → r ≡ clip a low high → r ≤ℤ high
clipped_high a low high r h e = omega (arith, ints, clamps)

pub held_within : (n : ℕ) (r : ℤ) → 1 ≤ n → (pos 0 -ℤ pos n) ≤ℤ r → r ≤ℤ (pos n -ℤ pos 1) → unsigned_abs r ≤ n
held_within n r k a b = omega (arith, ints)

pub moved_is : (fraction : ℕ) (exponent : ℤ) (negative : Bool) (weight difference size moved r : ℤ) → size ≡ signed_by negative difference
    → moved ≡ step exponent size
    → r ≡ clip (weight +ℤ moved) (weight_min fraction) (weight_max fraction) → r ≡ updated_weight fraction exponent negative weight difference
unfolding updated_weight
moved_is fraction exponent negative weight difference size moved r a b e = e ∙ rw (b, a) refl

-- a weight after an error of either sign
pub chosen_weight : (fraction : ℕ) (exponent : ℤ) (negative : Bool) (weight difference raised lowered r : ℤ)
    → raised ≡ updated_weight fraction exponent false weight difference → lowered ≡ updated_weight fraction exponent true weight difference
    → r ≡ (if negative then lowered else raised) → r ≡ updated_weight fraction exponent negative weight difference
chosen_weight fraction exponent true weight difference raised lowered r up down is = is ∙ down
chosen_weight fraction exponent false weight difference raised lowered r up down is = is ∙ up

-- differences of samples of few bits may be raised by more
pub within_room : (bits by : ℕ) (us : List ℤ) → bits + by ≤ 24 → AllWithin (4 * 2 ^ bits) us → AllWithin (2 ^ (26 - by)) us
within_room bits by us h w i l =
    let k : bits + 2 ≤ 26 - by = omega arith in let p : 2 ^ (bits + 2) ≤ 2 ^ (26 - by) = pow_mono k in
    let e : 2 ^ (bits + 2) ≡ 2 ^ bits * 2 ^ 2 = pow-add 2 bits 2 in le_trans (w i l) (omega (arith, p, e))

pub within_most : (bits : ℕ) (us : List ℤ) → bits ≤ 16 → AllWithin (4 * 2 ^ bits) us → AllWithin (2 ^ 18) us
within_most bits us h w i l = let p : 2 ^ bits ≤ 2 ^ 16 = pow_mono h in le_trans (w i l) (omega (arith, p))

pub room_word : (by : ℕ) → 2 ^ (26 - by) ≤ 2 ^ 26
room_word by = let k : 26 - by ≤ 26 = omega arith in pow_mono k
