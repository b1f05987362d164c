-- Numbers of samples.
use Rattle.std.proofs.Common.{◌≡◌, ℕ, ◌+◌, ◌≤◌, min, ℤ, pos, negsuc, ◌+ℤ◌, ◌-ℤ◌, ◌*ℤ◌, ◌≤ℤ◌, unsigned_abs, Bool, IsTrue, refl, ◌∙◌, arith, w32, SFits}
use Rattle.std.proofs.lemmas.Int.{ints, fits_signed_from_abs}
use Rattle.sample_prediction.specs.Arithmetic.{floor_div}
use Rattle.sample_prediction.specs.Residual.{mapped_between, theta_between, agrees, number_of}

pub SFits-near : (a b : ℤ) → a ≤ℤ (b +ℤ pos 65535) → b ≤ℤ (a +ℤ pos 65535) → SFits w32 (b -ℤ a)
SFits-near a b h k = fits_signed_from_abs w32 (b -ℤ a) (omega (arith, ints))

pub size_fits : (low high p v : ℤ) (theta size : ℕ) → high ≤ℤ (low +ℤ pos 65535) → low ≤ℤ p → p ≤ℤ high → low ≤ℤ v → v ≤ℤ high
    → theta ≡ theta_between low high p → size ≡ unsigned_abs (v -ℤ p) → size + min size theta ≤ 65535
size_fits low high p v theta size a b c d e f g = omega (arith, ints)

pub zero_agrees : (scaled e : ℤ) → unsigned_abs e ≡ 0 → IsTrue (agrees scaled e)
zero_agrees scaled (pos n) h = grind (arith, ints)
zero_agrees scaled (negsuc n) h = absurd (omega arith)

pub mapped_is : (low high scaled v p : ℤ) (theta size n : ℕ) (sign : Bool) → p ≡ floor_div scaled 2 → theta ≡ theta_between low high p
    → size ≡ unsigned_abs (v -ℤ p) → sign ≡ agrees scaled (v -ℤ p) → n ≡ number_of theta size sign → n ≡ mapped_between low high scaled v
unfolding mapped_between
mapped_is low high scaled v p theta size n sign a b c d e = e ∙ rw (b, c, d, a) refl

-- half of a scaled prediction lies in the range
pub within : (low high scaled p : ℤ) → (pos 2 *ℤ low) ≤ℤ scaled → scaled ≤ℤ (pos 2 *ℤ high +ℤ pos 1) → (pos 2 *ℤ p) ≤ℤ scaled → scaled ≤ℤ (pos 2 *ℤ p +ℤ pos 1)
    → (low ≤ℤ p) × (p ≤ℤ high)
within low high scaled p a b c d = omega (arith, ints)
