-- The number that a step makes, where what it asks is kept.
use Rattle.std.proofs.Common.{ℕ, suc, ◌+◌, ◌-◌, ◌*◌, ◌%◌, ◌^◌, ◌<◌, ℤ, pos, negsuc, ◌+ℤ◌, ◌-ℤ◌, ◌*ℤ◌, ◌≤ℤ◌, unsigned_abs, ◌≡◌, refl, sym, ap, ◌∙◌, arith, to_z, of_z, SFits, w16, w32, w64, bit_and, bit_xor}
use Rattle.std.specs.Int.{int_rem_euclid}
use Rattle.std.specs.Int.Signed.{shr_z, mag_shr}
use Rattle.std.specs.Int.Bits.{xor_zero_r, xor_add_and}
use Rattle.std.proofs.lemmas.Int.{ints, clamps, to_z-of_z, to_z_pos, fits_signed_from_abs, fits_signed_mul, wrapping_add_is, wrapping_sub_is, wrapping_mul_is, int_wrap_fits, int_rem_euclid_is}
use Rattle.std.proofs.lemmas.Nat.{and_mask, pow-add, pow_pos, pow_below}
use Rattle.std.proofs.Math.Facts.{to_z-neg}
use Rattle.std.proofs.Math.Nat.{mod-lt, lt_trans}
use mir.Syntax.{Width}
use mir.Val.{bits, hbits}
use Rattle.lanes.specs.Lanes.{halved, held}

pub sum_is : (w : Width) (x y : ℤ) → SFits w x → SFits w y → unsigned_abs (x +ℤ y) < 2 ^ hbits w → to_z w ((of_z w x + of_z w y) % 2 ^ bits w) ≡ x +ℤ y
sum_is w x y f g h = wrapping_add_is w x y f g ∙ int_wrap_fits w (x +ℤ y) (fits_signed_from_abs w (x +ℤ y) h)

pub product_is : (w : Width) (x y : ℤ) → SFits w x → SFits w y → unsigned_abs (x *ℤ y) < 2 ^ hbits w → to_z w ((of_z w x * of_z w y) % 2 ^ bits w) ≡ x *ℤ y
product_is w x y f g h = wrapping_mul_is w x y f g ∙ int_wrap_fits w (x *ℤ y) (fits_signed_from_abs w (x *ℤ y) h)

in_wide : (x : ℤ) → SFits w16 x → SFits w32 x
in_wide x f = record { sfits = (let h = f.sfits in omega arith) }

pub wide_product_is : (x y : ℤ) → SFits w16 x → SFits w16 y → to_z w32 ((of_z w32 x * of_z w32 y) % 2 ^ 32) ≡ x *ℤ y
wide_product_is x y f g =
    let p = f.sfits in let q = g.sfits in
    wrapping_mul_is w32 x y (in_wide x f) (in_wide y g)
    ∙ int_wrap_fits w32 (x *ℤ y) (fits_signed_mul w32 x y (2 ^ 15) (2 ^ 15) (omega (arith, ints)) (omega (arith, ints)) (omega arith))

pub wide_difference_is : (x y : ℤ) → SFits w16 x → SFits w16 y → to_z w32 ((of_z w32 x + (2 ^ 32 - of_z w32 y)) % 2 ^ 32) ≡ x -ℤ y
wide_difference_is x y f g =
    wrapping_sub_is w32 x y (in_wide x f) (in_wide y g) ∙ int_wrap_fits w32 (x -ℤ y) (fits_signed_from_abs w32 (x -ℤ y) (omega (arith, ints, f.sfits, g.sfits)))

pub difference_is : (w : Width) (x y : ℤ) → SFits w x → SFits w y → unsigned_abs (x -ℤ y) < 2 ^ hbits w
    → to_z w ((of_z w x + (2 ^ bits w - of_z w y)) % 2 ^ bits w) ≡ x -ℤ y
difference_is w x y f g h = wrapping_sub_is w x y f g ∙ int_wrap_fits w (x -ℤ y) (fits_signed_from_abs w (x -ℤ y) h)

in_long : (x : ℤ) → SFits w32 x → SFits w64 x
in_long x f = record { sfits = (let h = f.sfits in omega arith) }

pub long_product_is : (x y : ℤ) → SFits w32 x → SFits w32 y → to_z w64 ((of_z w64 x * of_z w64 y) % 2 ^ 64) ≡ x *ℤ y
long_product_is x y f g =
    let p = f.sfits in let q = g.sfits in
    wrapping_mul_is w64 x y (in_long x f) (in_long y g)
    ∙ int_wrap_fits w64 (x *ℤ y) (fits_signed_mul w64 x y (2 ^ 31) (2 ^ 31) (omega (arith, ints)) (omega (arith, ints)) (omega arith))

-- a shift to the right rounds down
floor_of_shift : (x : ℤ) (by : ℕ) → shr_z x (2 ^ by) ≡ halved x by
floor_of_shift (pos a) by = refl
floor_of_shift (negsuc a) by = refl

pub shifted_is : (w : Width) (x : ℤ) (by : ℕ) → SFits w x → to_z w (of_z w (shr_z (to_z w (of_z w x)) (2 ^ by))) ≡ halved x by
shifted_is w x by f =
    ap (λ y. to_z w (of_z w (shr_z y (2 ^ by)))) (to_z-of_z w x f)
    ∙ to_z-of_z w (shr_z x (2 ^ by)) (record { sfits = (let h = f.sfits in omega (arith, mag_shr x (2 ^ by))) })
    ∙ floor_of_shift x by

-- all bits flipped
ones : (n : ℕ) → n < 2 ^ 16 → bit_xor n 65535 ≡ 65535 - n
ones n h = omega (arith, xor_add_and n 65535, and_mask n 16)

pub not_flipped : (x : ℤ) → SFits w16 x → to_z w16 (bit_xor (of_z w16 x) 0) ≡ x
not_flipped x f = ap (to_z w16) (xor_zero_r (of_z w16 x)) ∙ to_z-of_z w16 x f

pub flipped_is : (x : ℤ) → SFits w16 x → to_z w16 (bit_xor (of_z w16 x) 65535) ≡ negsuc 0 -ℤ x
flipped_is (pos a) f =
    let l : a < 2 ^ 15 = omega (arith, ints, f.sfits) in
    ap (to_z w16) (ones a (omega arith) ∙ omega arith) ∙ to_z-neg w16 a l ∙ omega (arith, ints)
flipped_is (negsuc a) f =
    let l : a < 2 ^ 15 = omega (arith, ints, f.sfits) in
    let m : 65535 - (65536 - suc a) ≡ a = omega arith in
    ap (to_z w16) (ones (65536 - suc a) (omega arith) ∙ m) ∙ to_z_pos w16 a l ∙ omega (arith, ints)

ones_long : (n : ℕ) → n < 2 ^ 32 → bit_xor n 4294967295 ≡ 4294967295 - n
ones_long n h = omega (arith, xor_add_and n 4294967295, and_mask n 32)

pub not_flipped_long : (x : ℤ) → SFits w32 x → to_z w32 (bit_xor (of_z w32 x) 0) ≡ x
not_flipped_long x f = ap (to_z w32) (xor_zero_r (of_z w32 x)) ∙ to_z-of_z w32 x f

pub flipped_long_is : (x : ℤ) → SFits w32 x → to_z w32 (bit_xor (of_z w32 x) 4294967295) ≡ negsuc 0 -ℤ x
flipped_long_is (pos a) f =
    let l : a < 2 ^ 31 = omega (arith, ints, f.sfits) in
    ap (to_z w32) (ones_long a (omega arith) ∙ omega arith) ∙ to_z-neg w32 a l ∙ omega (arith, ints)
flipped_long_is (negsuc a) f =
    let l : a < 2 ^ 31 = omega (arith, ints, f.sfits) in
    let m : 4294967295 - (4294967296 - suc a) ≡ a = omega arith in
    ap (to_z w32) (ones_long (4294967296 - suc a) (omega arith) ∙ m) ∙ to_z_pos w32 a l ∙ omega (arith, ints)

-- the lowest bits
pub rest_of : (x : ℤ) (by : ℕ) → SFits w32 x → by < 31 → pos (of_z w32 x % 2 ^ by) ≡ int_rem_euclid x (pos (2 ^ by))
rest_of (pos a) by f h = refl
rest_of (negsuc a) by f h =
    let l : a < 2 ^ 31 = omega (arith, ints, f.sfits) in
    let sum : 32 - by + by ≡ 32 = omega arith in
    let whole : 2 ^ (32 - by) * 2 ^ by ≡ 2 ^ 32 = sym (pow-add 2 (32 - by) by) ∙ ap (λ n. 2 ^ n) sum in
    let up : negsuc a +ℤ pos (2 ^ (32 - by) * 2 ^ by) ≡ pos (2 ^ 32 - suc a) = ap (λ n. negsuc a +ℤ pos n) whole ∙ omega (arith, ints) in
    sym (int_rem_euclid_is (negsuc a) (pos (2 ^ by)) (2 ^ by) (2 ^ (32 - by)) (2 ^ 32 - suc a) (pow_pos by) refl up)

pub masked_is : (x : ℤ) (by : ℕ) → SFits w32 x → by < 31 → to_z w32 (bit_and (of_z w32 x) (2 ^ by - 1)) ≡ int_rem_euclid x (pos (2 ^ by))
masked_is x by f h =
    let l : of_z w32 x % 2 ^ by < 2 ^ 31 = lt_trans (mod-lt (of_z w32 x) (pow_pos by)) (pow_below by 31 h) in
    ap (to_z w32) (and_mask (of_z w32 x) by) ∙ to_z_pos w32 (of_z w32 x % 2 ^ by) l ∙ rest_of x by f h

-- the mask of the lowest bits, as it is computed
pub mask_is : (by : ℕ) → by < 31 → to_z w32 (1 * 2 ^ by % 4294967296) -ℤ pos 1 ≡ pos (2 ^ by - 1)
mask_is by h =
    let p = pow_below by 31 h in let q = pow_pos by in
    let e : 1 * 2 ^ by % 4294967296 ≡ 2 ^ by = omega arith in
    ap (λ n. to_z w32 n -ℤ pos 1) e ∙ ap (λ z. z -ℤ pos 1) (to_z_pos w32 (2 ^ by) p) ∙ omega (arith, ints)

between_fits : (z : ℤ) → negsuc 32767 ≤ℤ z → z ≤ℤ pos 32767 → SFits w16 z
between_fits (pos n) h k = record { sfits = omega (arith, ints, h, k) }
between_fits (negsuc n) h k = record { sfits = omega (arith, ints, h, k) }

pub held_fits : (x : ℤ) → SFits w16 (held x)
held_fits x = between_fits (held x) (omega (arith, ints, clamps)) (omega (arith, ints, clamps))
