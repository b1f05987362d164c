-- Quotients rounded down, and the sign of an error that they tell.
use Rattle.std.proofs.Common.{◌≡◌, ℕ, zero, suc, ◌+◌, ◌-◌, ◌*◌, ◌%◌, ◌^◌, ◌<◌, ◌≤◌, ℤ, pos, negsuc, ◌+ℤ◌, ◌-ℤ◌, ◌*ℤ◌, ◌≤ℤ◌, int_lt, int_le, unsigned_abs, Bool}
use Rattle.std.proofs.Common.{true, false, arith, refl, sym, ap, ◌∙◌, pow_pos, pow-suc, mul_comm, mul-le-mul_left}
use Rattle.std.proofs.lemmas.Int.{ints, clamps, int_rem_euclid_is}
use Rattle.std.proofs.lemmas.Nat.{shr-shr, div-add-mod', div_below}
use Rattle.std.proofs.Math.Nat.{mod-lt}
use Rattle.std.proofs.Math.Arith.{digits_mod}
use Rattle.std.proofs.Math.Pow.{pow_mono}
use borrow.Author.Differences.{sum_is_lem}
use Rattle.header_bits.proofs.Tests.{le_true, true_le}
use Rattle.sample_prediction.specs.Arithmetic.{floor_div, clip, wrapped}
use Rattle.std.specs.Int.{int_rem_euclid}

pub times_sum : (n : ℕ) (a b : ℤ) → pos n *ℤ (a +ℤ b) ≡ pos n *ℤ a +ℤ pos n *ℤ b
times_sum n a b = let e = ap (λ k. n * k) (sum_is_lem a b) in omega (arith, ints, e)

times_difference : (n : ℕ) (a b : ℤ) → pos n *ℤ (a -ℤ b) ≡ pos n *ℤ a -ℤ pos n *ℤ b
times_difference n a b =
    let e = times_sum n (a -ℤ b) b in let f : (a -ℤ b) +ℤ b ≡ a = omega (arith, ints) in
    let g : pos n *ℤ ((a -ℤ b) +ℤ b) ≡ pos n *ℤ a = ap (λ v. pos n *ℤ v) f in omega (arith, ints, e, g)

times_size : (n : ℕ) (a : ℤ) → unsigned_abs (pos n *ℤ a) ≡ n * unsigned_abs a
times_size n (pos a) = refl
times_size n (negsuc a) = omega (arith, ints)

-- a number lies at its quotient rounded down, or less than a divisor above it
pub floor_low : (a : ℤ) (n : ℕ) → 0 < n → (pos n *ℤ floor_div a n) ≤ℤ a
floor_low (pos a) n h = let e = div-add-mod' a n in omega (arith, ints, e)
floor_low (negsuc a) n h = let e = div-add-mod' a n in let l = mod-lt a h in omega (arith, ints, e, l)

pub floor_high : (a : ℤ) (n : ℕ) → 0 < n → (a +ℤ pos 1) ≤ℤ (pos n *ℤ floor_div a n +ℤ pos n)
floor_high (pos a) n h = let e = div-add-mod' a n in let l = mod-lt a h in omega (arith, ints, e, l)
floor_high (negsuc a) n h = let e = div-add-mod' a n in omega (arith, ints, e)

-- a multiple of a number that is less than the number is none or negative
none_above : (n : ℕ) (v : ℤ) → (pos n *ℤ v +ℤ pos 1) ≤ℤ pos n → v ≤ℤ pos 0
none_above n (pos zero) h = omega (arith, ints)
none_above n (pos (suc k)) h = absurd (omega (arith, ints, h))
none_above n (negsuc k) h = omega (arith, ints)

-- which of two numbers is greater, by their multiples
pub not_above : (n : ℕ) (a b : ℤ) → (pos n *ℤ a +ℤ pos 1) ≤ℤ (pos n *ℤ b +ℤ pos n) → a ≤ℤ b
not_above n a b h = let e = times_difference n a b in let l = none_above n (a -ℤ b) (omega (arith, ints, e, h)) in omega (arith, ints, l)

pub floor_is : (a q : ℤ) (n : ℕ) → 0 < n → (pos n *ℤ q) ≤ℤ a → (a +ℤ pos 1) ≤ℤ (pos n *ℤ q +ℤ pos n) → floor_div a n ≡ q
floor_is a q n some low high =
    let under = floor_low a n some in let over = floor_high a n some in let up = not_above n (floor_div a n) q (omega (arith, ints, under, high)) in
    let down = not_above n q (floor_div a n) (omega (arith, ints, low, over)) in omega (arith, ints, up, down)

pub floor_of_sum : (a g : ℤ) (n : ℕ) → 0 < n → floor_div (a +ℤ pos n *ℤ g) n ≡ floor_div a n +ℤ g
floor_of_sum a g n some =
    let under = floor_low a n some in let over = floor_high a n some in let e = times_sum n (floor_div a n) g in
    floor_is (a +ℤ pos n *ℤ g) (floor_div a n +ℤ g) n some (omega (arith, ints, under, e)) (omega (arith, ints, over, e))

-- a half of a quotient, both rounded down
pub half_of_floor : (a : ℤ) (k : ℕ) → floor_div (floor_div a (2 ^ k)) 2 ≡ floor_div a (2 ^ (k + 1))
half_of_floor (pos a) k = ap pos (shr-shr a k 1)
half_of_floor (negsuc a) k = ap negsuc (shr-shr a k 1)

-- the upper part of a sum of products and a number with so many fractional bits
pub upper_part : (fraction : ℕ) (product distance : ℤ)
    → floor_div (product +ℤ pos (2 ^ fraction) *ℤ distance) (2 ^ (fraction + 1)) ≡ floor_div (floor_div product (2 ^ fraction) +ℤ distance) 2
upper_part fraction product distance =
    sym (half_of_floor (product +ℤ pos (2 ^ fraction) *ℤ distance) fraction)
    ∙ ap (λ q. floor_div q 2) (floor_of_sum product distance (2 ^ fraction) (pow_pos fraction))

same_test : (s t : Bool) → (s ≡ true → t ≡ true) → (t ≡ true → s ≡ true) → s ≡ t
same_test true true f g = refl
same_test true false f g = sym (f refl)
same_test false true f g = g refl
same_test false false f g = refl

lt_true : (a b : ℤ) → (a +ℤ pos 1) ≤ℤ b → int_lt a b ≡ true
lt_true a b h = grind (arith, ints)

true_lt : (a b : ℤ) → int_lt a b ≡ true → (a +ℤ pos 1) ≤ℤ b
true_lt a b h = omega (arith, ints, h)

-- the clip changes nothing of the sign
pub sign_of_center : (low high sample center scaled : ℤ) → low ≤ℤ sample → sample ≤ℤ high → scaled ≡ clip center (pos 2 *ℤ low) (pos 2 *ℤ high +ℤ pos 1)
    → int_lt (pos 2 *ℤ sample -ℤ scaled) (pos 0) ≡ int_lt (pos 2 *ℤ sample) center
sign_of_center low high sample center scaled a b e =
    same_test _ _
    (λ h. let l = true_lt (pos 2 *ℤ sample -ℤ scaled) (pos 0) h in lt_true (pos 2 *ℤ sample) center (omega (arith, ints, clamps, e, l)))
    (λ h. let l = true_lt (pos 2 *ℤ sample) center h in lt_true (pos 2 *ℤ sample -ℤ scaled) (pos 0) (omega (arith, ints, clamps, e, l)))

half_way : (sample sum middle part half : ℤ) → (pos 2 *ℤ half) ≤ℤ (part +ℤ (sum -ℤ pos 4 *ℤ middle))
    → ((part +ℤ (sum -ℤ pos 4 *ℤ middle)) +ℤ pos 1) ≤ℤ (pos 2 *ℤ half +ℤ pos 2)
    → int_lt (pos 2 *ℤ sample) (half +ℤ pos 2 *ℤ middle +ℤ pos 1) ≡ int_le (pos 4 *ℤ sample -ℤ sum) part
half_way sample sum middle part half under over =
    same_test _ _
    (λ e. let l = true_lt (pos 2 *ℤ sample) (half +ℤ pos 2 *ℤ middle +ℤ pos 1) e in true_le (pos 4 *ℤ sample -ℤ sum) part (omega (arith, ints, l, under)))
    (λ e. let l = le_true (pos 4 *ℤ sample -ℤ sum) part e in lt_true (pos 2 *ℤ sample) (half +ℤ pos 2 *ℤ middle +ℤ pos 1) (omega (arith, ints, l, over)))

-- before the clip, a prediction is greater than a sample exactly where the part of the products is the central difference or more
pub sign_of_part : (sample sum middle part : ℤ)
    → int_lt (pos 2 *ℤ sample) (floor_div (part +ℤ (sum -ℤ pos 4 *ℤ middle)) 2 +ℤ pos 2 *ℤ middle +ℤ pos 1) ≡ int_le (pos 4 *ℤ sample -ℤ sum) part
sign_of_part sample sum middle part =
    half_way sample sum middle part (floor_div (part +ℤ (sum -ℤ pos 4 *ℤ middle)) 2)
    (floor_low (part +ℤ (sum -ℤ pos 4 *ℤ middle)) 2 (omega arith)) (floor_high (part +ℤ (sum -ℤ pos 4 *ℤ middle)) 2 (omega arith))

whole_remainder : (r d : ℕ) → r < d → r % d ≡ r
whole_remainder r d h = let e : r ≡ 0 * d + r = omega arith in ap (λ n. n % d) e ∙ digits_mod 0 h

-- a register keeps what fits it
pub kept : (r : ℕ) (a : ℤ) → 1 ≤ r → unsigned_abs a < 2 ^ (r - 1) → wrapped r a ≡ a
unfolding wrapped
kept r a h b =
    let e : r ≡ suc (r - 1) = omega arith in let double : 2 ^ r ≡ 2 ^ (r - 1) * 2 = ap (λ k. 2 ^ k) e ∙ pow-suc 2 (r - 1) in
    rw double (fits_half (2 ^ (r - 1)) a b)
  where
    fits_half : (n : ℕ) (a : ℤ) → unsigned_abs a < n → int_rem_euclid (a +ℤ pos n) (pos (n * 2)) -ℤ pos n ≡ a
    fits_half n (pos m) l = let k : (m + n) % (n * 2) ≡ m + n = whole_remainder (m + n) (n * 2) (omega arith) in rw k (omega (arith, ints))
    fits_half n (negsuc m) l =
        let e = int_rem_euclid_is (negsuc m +ℤ pos n) (pos (n * 2)) (n * 2) 0 (n - suc m) (omega arith) refl (omega (arith, ints)) in
        let k : (n - suc m) % (n * 2) ≡ n - suc m = whole_remainder (n - suc m) (n * 2) (omega arith) in rw (e, k) (omega (arith, ints))

-- a quotient is no greater than what its divisor times over would make
pub floor_within : (a : ℤ) (m n : ℕ) → 0 < n → unsigned_abs a ≤ m * n → unsigned_abs (floor_div a n) ≤ m
floor_within (pos a) m n some h = (let l = div_below a n (suc m) some (omega arith) in omega arith)
floor_within (negsuc a) m n some h = div_below a n m some (omega arith)

-- what lies below a power of two lies below a greater one
pub below_power : (i j : ℕ) (a : ℤ) → i ≤ j → unsigned_abs a < 2 ^ i → unsigned_abs a < 2 ^ j
below_power i j a h l = let p : 2 ^ i ≤ 2 ^ j = pow_mono h in omega arith

-- a product whose quotient is less than a limit stays below the limit's multiple, with a multiple of the divisor added
pub sum_below : (product distance : ℤ) (limit n top : ℕ) → 0 < n → unsigned_abs (floor_div product n +ℤ distance) < limit → limit * n ≤ top
    → unsigned_abs (product +ℤ pos n *ℤ distance) < top
sum_below product distance limit n top some small fits =
    let under = floor_low product n some in let over = floor_high product n some in
    let e = times_sum n (floor_div product n) distance in let size = times_size n (floor_div product n +ℤ distance) in
    let room : n * (unsigned_abs (floor_div product n +ℤ distance) + 1) ≤ n * limit = mul-le-mul_left n (omega (arith, small)) in
    let split : n * (unsigned_abs (floor_div product n +ℤ distance) + 1) ≡ n * unsigned_abs (floor_div product n +ℤ distance) + n = omega arith in
    let swapped : n * limit ≡ limit * n = mul_comm n limit in omega (arith, ints, under, over, e, size, room, split, swapped, fits)
