-- The sign of an error as a word of 32 bits: all ones, or 0.
use lib.Bits.{and_zero_r}
use Rattle.std.proofs.Common.{◌≡◌, ℕ, zero, suc, ◌-◌, ◌^◌, ◌%◌, ◌≤◌, ℤ, pos, negsuc, ◌-ℤ◌, ◌≤ℤ◌, int_lt, unsigned_abs, arith, w32, to_z, of_z, SFits}
use Rattle.std.proofs.Common.{to_z-of_z, ◌+ℤ◌, if◌then◌else◌, Bool, true, false}
use Rattle.std.specs.Int.Bits.{bit_and}
use Rattle.std.proofs.lemmas.Int.{ints, fits_signed_from_abs}
use Rattle.std.proofs.lemmas.Nat.{and_mask}

-- a word whose bits are all kept
kept : (d : ℤ) → unsigned_abs d ≤ 2 ^ 22 → bit_and (of_z w32 d) 4294967295 ≡ of_z w32 d
kept (pos n) h = let masked : bit_and n 4294967295 ≡ n % 4294967296 = and_mask n 32 in omega (arith, masked, h)
kept (negsuc n) h = let masked : bit_and (2 ^ 32 - suc n) 4294967295 ≡ (2 ^ 32 - suc n) % 4294967296 = and_mask (2 ^ 32 - suc n) 32 in
    omega (arith, ints, masked, h)

-- one of two numbers, by such a word
pub chosen_is : (sign_mask a b : ℤ) → negsuc 0 ≤ℤ sign_mask → sign_mask ≤ℤ pos 0 → unsigned_abs a ≤ 2 ^ 21 → unsigned_abs b ≤ 2 ^ 21
    → a +ℤ to_z w32 (bit_and (of_z w32 (b -ℤ a)) (of_z w32 sign_mask)) ≡ (if int_lt sign_mask (pos 0) then b else a)
chosen_is (pos zero) a b l h s t = rw (and_zero_r (of_z w32 (b -ℤ a))) (omega (arith, ints))
chosen_is (pos (suc n)) a b l h s t = absurd (omega (arith, ints, h))
chosen_is (negsuc zero) a b l h s t =
    let fits : SFits w32 (b -ℤ a) = fits_signed_from_abs w32 (b -ℤ a) (omega (arith, ints, s, t)) in
    rw (kept (b -ℤ a) (omega (arith, ints, s, t)), to_z-of_z fits) (omega (arith, ints))
chosen_is (negsuc (suc n)) a b l h s t = absurd (omega (arith, ints, l))

-- a number where such a word is all ones, and else 0
pub masked_is : (mask n : ℤ) → negsuc 0 ≤ℤ mask → mask ≤ℤ pos 0 → unsigned_abs n ≤ 2 ^ 21
    → to_z w32 (bit_and (of_z w32 n) (of_z w32 mask)) ≡ (if int_lt mask (pos 0) then n else pos 0)
masked_is mask n l h s =
    let same : n -ℤ pos 0 ≡ n = omega (arith, ints) in let m = rw same at (chosen_is mask (pos 0) n l h (omega arith) s) in omega (arith, ints, m)

pub masked_within : (mask n : ℤ) → pos 0 ≤ℤ n → n ≤ℤ pos 262140
    → (pos 0 ≤ℤ (if int_lt mask (pos 0) then n else pos 0)) × ((if int_lt mask (pos 0) then n else pos 0) ≤ℤ pos 262140)
masked_within mask n l h = (grind (arith, ints), grind (arith, ints))

pub either_fits : (negative : Bool) (a b : ℤ) → unsigned_abs a ≤ 2 ^ 21 → unsigned_abs b ≤ 2 ^ 21 → SFits w32 (if negative then b else a)
either_fits true a b s t = fits_signed_from_abs w32 b (omega (arith, t))
either_fits false a b s t = fits_signed_from_abs w32 a (omega (arith, s))

pub either_within : (limit : ℕ) (negative : Bool) (a b : ℤ) → unsigned_abs a ≤ limit → unsigned_abs b ≤ limit → unsigned_abs (if negative then b else a) ≤ limit
either_within limit true a b s t = t
either_within limit false a b s t = s
