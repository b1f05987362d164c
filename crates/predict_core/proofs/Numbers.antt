-- Numbers of offsets: the lesser of two, and the same as those of samples.
use Rattle.std.proofs.Common.{◌≡◌, ℕ, ◌+◌, ◌*◌, ◌%◌, ◌^◌, ◌≤◌, ◌⊎◌, inl, inr, min, ℤ, pos, negsuc, ◌+ℤ◌, ◌-ℤ◌, ◌*ℤ◌, ◌≤ℤ◌, unsigned_abs, Bool, true, false}
use Rattle.std.proofs.Common.{refl, sym, ap, ap₂, ◌∙◌, arith, to_z, of_z, w32, SFits}
use Rattle.std.specs.Int.{int_min}
use Rattle.std.proofs.lemmas.Bool.{true≢false}
use Rattle.std.proofs.lemmas.Int.{ints, clamps, fits_signed_from_abs, wrapping_add_is, int_wrap_fits}
use Rattle.sample_prediction.specs.Arithmetic.{floor_div, clip}
use Rattle.sample_prediction.specs.Residual.{mapped_between, theta_between, agrees}
use Rattle.sample_prediction.proofs.OneSample.{signed_by, NumberBy, agrees_cases, number_cases}
use Rattle.sample_prediction.proofs.Floors.{floor_of_sum}

-- what alternates between both signs
alternates : (parity : ℕ) (e far alternating : ℤ) (sign : Bool) → signed_by parity e sign → far ≡ pos 2 *ℤ e -ℤ pos (parity % 2)
    → (pos 0 ≤ℤ far → alternating ≡ far) → (far ≤ℤ negsuc 0 → alternating ≡ negsuc 0 -ℤ far)
    → ((sign ≡ true) × (alternating ≡ pos (2 * unsigned_abs e))) ⊎ ((sign ≡ false) × (alternating +ℤ pos 1 ≡ pos (2 * unsigned_abs e)) × (1 ≤ unsigned_abs e))
alternates parity e far alternating sign (inl h) f up down = inl (h.0, (let a = h.1 in let b = h.2 in let u = up (omega (arith, ints)) in omega (arith, ints)))
alternates parity e far alternating sign (inr (inl h)) f up down =
    inr (h.0, (let a = h.1 in let b = h.2 in let u = down (omega (arith, ints)) in omega (arith, ints)), (let b = h.2 in omega (arith, ints)))
alternates parity e far alternating sign (inr (inr (inl h))) f up down =
    inl (h.0, (let a = h.1 in let b = h.2 in let u = down (omega (arith, ints)) in omega (arith, ints)))
alternates parity e far alternating sign (inr (inr (inr h))) f up down =
    inr (h.0, (let a = h.1 in let b = h.2 in let u = up (omega (arith, ints)) in omega (arith, ints)), (let b = h.2 in omega (arith, ints)))

lesser_by : (theta size n : ℕ) (alternating : ℤ) (sign : Bool) → ((sign ≡ true) × (alternating ≡ pos (2 * size)))
    ⊎ ((sign ≡ false) × (alternating +ℤ pos 1 ≡ pos (2 * size)) × (1 ≤ size)) → NumberBy theta size sign n → int_min alternating (pos size +ℤ pos theta) ≡ pos n
lesser_by theta size n alternating sign (inl t) (inl c) = let e = t.1 in let l = c.0 in let m = c.1 in omega (arith, ints, clamps)
lesser_by theta size n alternating sign (inr t) (inl c) = let e = t.1 in let l = c.0 in let m = c.1 in omega (arith, ints, clamps)
lesser_by theta size n alternating sign (inl t) (inr (inl c)) = let e = t.1 in let l = c.0 in let m = c.2 in omega (arith, ints, clamps)
lesser_by theta size n alternating sign (inr t) (inr (inl c)) = absurd (true≢false (sym c.1 ∙ t.0))
lesser_by theta size n alternating sign (inl t) (inr (inr c)) = absurd (true≢false (sym t.0 ∙ c.1))
lesser_by theta size n alternating sign (inr t) (inr (inr c)) = let e = t.1 in let some = t.2 in let l = c.0 in let m = c.2 in omega (arith, ints, clamps)

-- twice the prediction, and the parity
parts_of : (t : ℤ) → pos 0 ≤ℤ t → t ≡ pos 2 *ℤ floor_div t 2 +ℤ pos (unsigned_abs t % 2)
parts_of (pos t) h = omega (arith, ints)
parts_of (negsuc t) h = absurd (omega (arith, ints, h))

pub number_is : (g t h alternating : ℤ) → pos 0 ≤ℤ t → (pos 0 ≤ℤ (pos 2 *ℤ h -ℤ t) → alternating ≡ pos 2 *ℤ h -ℤ t)
    → ((pos 2 *ℤ h -ℤ t) ≤ℤ negsuc 0 → alternating ≡ negsuc 0 -ℤ (pos 2 *ℤ h -ℤ t))
    → int_min alternating (pos (unsigned_abs (h -ℤ floor_div t 2)) +ℤ pos (theta_between (pos 0) g (floor_div t 2))) ≡ pos (mapped_between (pos 0) g t h)
unfolding mapped_between
number_is g t h alternating some up down =
    let p : ℤ = floor_div t 2 in let whole = parts_of t some in
    let far : pos 2 *ℤ h -ℤ t ≡ pos 2 *ℤ (h -ℤ p) -ℤ pos (unsigned_abs t % 2) = omega (arith, ints, whole) in
    lesser_by (theta_between (pos 0) g p) (unsigned_abs (h -ℤ p)) (mapped_between (pos 0) g t h) alternating (agrees t (h -ℤ p))
    (alternates (unsigned_abs t) (h -ℤ p) (pos 2 *ℤ h -ℤ t) alternating (agrees t (h -ℤ p)) (agrees_cases t (h -ℤ p) _ refl) far up down)
    (number_cases (theta_between (pos 0) g p) (unsigned_abs (h -ℤ p)) _ (agrees t (h -ℤ p)) refl)

-- ---- offsets in place of samples

same_parity : (a b : ℤ) → unsigned_abs (a +ℤ pos 2 *ℤ b) % 2 ≡ unsigned_abs a % 2
same_parity a b = omega (arith, ints)

same_half : (a b : ℤ) → floor_div (a +ℤ pos 2 *ℤ b) 2 ≡ floor_div a 2 +ℤ b
same_half a b = floor_of_sum a b 2 (omega arith)

-- the number of a sample is that of its offset
pub shifted : (low high t h : ℤ) → mapped_between low high (t +ℤ pos 2 *ℤ low) (low +ℤ h) ≡ mapped_between (pos 0) (high -ℤ low) t h
unfolding mapped_between
shifted low high t h =
    let p : ℤ = floor_div t 2 in let e : (low +ℤ h) -ℤ (p +ℤ low) ≡ h -ℤ p = omega (arith, ints) in
    let under : (p +ℤ low) -ℤ low ≡ p -ℤ pos 0 = omega (arith, ints) in let over : high -ℤ (p +ℤ low) ≡ (high -ℤ low) -ℤ p = omega (arith, ints) in
    let theta : theta_between low high (p +ℤ low) ≡ theta_between (pos 0) (high -ℤ low) p = ap₂ min (ap unsigned_abs under) (ap unsigned_abs over) in
    rw (same_half t low, e, theta, same_parity t low) refl

pub scaled_up : (low middle high part sum : ℤ)
    → clip (floor_div (part +ℤ ((pos 4 *ℤ low +ℤ sum) -ℤ pos 4 *ℤ middle)) 2 +ℤ pos 2 *ℤ middle +ℤ pos 1) (pos 2 *ℤ low) (pos 2 *ℤ high +ℤ pos 1)
    ≡ clip (floor_div (part +ℤ sum) 2 +ℤ pos 1) (pos 0) (pos 2 *ℤ (high -ℤ low) +ℤ pos 1) +ℤ pos 2 *ℤ low
scaled_up low middle high part sum =
    let d : part +ℤ ((pos 4 *ℤ low +ℤ sum) -ℤ pos 4 *ℤ middle) ≡ (part +ℤ sum) +ℤ pos 2 *ℤ (pos 2 *ℤ (low -ℤ middle)) = omega (arith, ints) in
    rw (d, same_half (part +ℤ sum) (pos 2 *ℤ (low -ℤ middle))) (omega (arith, ints, clamps))

pub offset_mapped : (low middle high part sum whole : ℤ) (offset : ℕ) → pos 4 *ℤ low +ℤ sum ≡ whole
    → mapped_between (pos 0) (high -ℤ low) (clip (floor_div (part +ℤ sum) 2 +ℤ pos 1) (pos 0) (pos 2 *ℤ (high -ℤ low) +ℤ pos 1)) (pos offset)
    ≡ mapped_between low high (clip (floor_div (part +ℤ (whole -ℤ pos 4 *ℤ middle)) 2 +ℤ pos 2 *ℤ middle +ℤ pos 1) (pos 2 *ℤ low) (pos 2 *ℤ high +ℤ pos 1))
    (low +ℤ pos offset)
offset_mapped low middle high part sum whole offset e =
    sym (shifted low high (clip (floor_div (part +ℤ sum) 2 +ℤ pos 1) (pos 0) (pos 2 *ℤ (high -ℤ low) +ℤ pos 1)) (pos offset))
    ∙ ap (λ t. mapped_between low high t (low +ℤ pos offset)) (sym (scaled_up low middle high part sum) ∙ rw e refl)

-- a sum that doesn't wrap
pub kept_sum : (a b : ℤ) → unsigned_abs a ≤ 18 * 2 ^ 20 → pos 0 ≤ℤ b → b ≤ℤ pos 262140 → to_z w32 ((of_z w32 a + of_z w32 b) % 4294967296) ≡ a +ℤ b
kept_sum a b h k l =
    let f : SFits w32 a = fits_signed_from_abs w32 a (omega arith) in let g : SFits w32 b = fits_signed_from_abs w32 b (omega (arith, ints)) in
    wrapping_add_is w32 a b f g ∙ int_wrap_fits w32 (a +ℤ b) (fits_signed_from_abs w32 (a +ℤ b) (omega (arith, ints)))
