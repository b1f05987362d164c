-- Each number is the number of one sample.
use Rattle.std.proofs.Common.{◌≡◌, ℕ, ◌+◌, ◌-◌, ◌*◌, ◌/◌, ◌%◌, ◌<◌, ◌≤◌, ◌⊎◌, inl, inr, min, ℤ, pos, negsuc, neg_ℤ, ◌+ℤ◌, ◌-ℤ◌, ◌*ℤ◌, ◌≤ℤ◌, ◌<ℤ◌, ◌^◌}
use Rattle.std.proofs.Common.{unsigned_abs, Bool, true, false, refl, sym, ap, ◌∙◌, arith}
use Rattle.std.proofs.lemmas.Int.{ints}
use Rattle.std.proofs.lemmas.Bool.Decides.{nat_tests}
use Rattle.std.proofs.lemmas.Bool.{cases_lt}
use Rattle.sample_prediction.proofs.Residuals.{within}
use Rattle.sample_prediction.proofs.Spans.{span, below_span}
use Rattle.cube_core.specs.Kind.{smin, smax}
use Rattle.sample_prediction.specs.Arithmetic.{floor_div}
use Rattle.sample_prediction.specs.Residual.{mapped_between, mapped, theta_between, agrees, number_of}
use Rattle.sample_prediction.specs.Mapping.{unmapped_between, error_of, Between, OneSample}

-- what each definition says, by its cases
pub number_cases : (theta size n : ℕ) (sign : Bool) → n ≡ number_of theta size sign
    → ((theta < size) × (n ≡ size + theta)) ⊎ (((size ≤ theta) × (sign ≡ true) × (n ≡ 2 * size)) ⊎ ((size ≤ theta) × (sign ≡ false) × (n ≡ 2 * size - 1)))
number_cases theta size n true e = grind (arith, nat_tests)
number_cases theta size n false e = grind (arith, nat_tests)

-- the sign of an error, by the parity of the scaled prediction
abbrev pub signed_by : ℕ → ℤ → Bool → Type 0
signed_by parity e sign =
    ((sign ≡ true) × (parity % 2 ≡ 0) × (pos 0 ≤ℤ e)) ⊎ (((sign ≡ false) × (parity % 2 ≡ 0) × (e <ℤ pos 0))
    ⊎ (((sign ≡ true) × (parity % 2 ≡ 1) × (e ≤ℤ pos 0)) ⊎ ((sign ≡ false) × (parity % 2 ≡ 1) × (pos 0 <ℤ e))))

pub agrees_cases : (scaled e : ℤ) (sign : Bool) → sign ≡ agrees scaled e → signed_by (unsigned_abs scaled) e sign
agrees_cases scaled e true h = by_parity (cases_lt 0 (unsigned_abs scaled % 2))
  where
    by_parity : (0 < unsigned_abs scaled % 2) ⊎ (unsigned_abs scaled % 2 ≤ 0) → signed_by (unsigned_abs scaled) e true
    by_parity (inl odd) = inr (inr (inl (refl, omega arith, grind (arith, ints, nat_tests))))
    by_parity (inr even) = inl (refl, omega arith, grind (arith, ints, nat_tests))
agrees_cases scaled e false h = by_parity (cases_lt 0 (unsigned_abs scaled % 2))
  where
    by_parity : (0 < unsigned_abs scaled % 2) ⊎ (unsigned_abs scaled % 2 ≤ 0) → signed_by (unsigned_abs scaled) e false
    by_parity (inl odd) = inr (inr (inr (refl, omega arith, grind (arith, ints, nat_tests))))
    by_parity (inr even) = inr (inl (refl, omega arith, grind (arith, ints, nat_tests)))

error_cases : (theta below parity n : ℕ) (e : ℤ) → e ≡ error_of theta below parity n
    → ((2 * theta < n) × (theta < below) × (e ≡ neg_ℤ (pos (n - theta)))) ⊎ (((2 * theta < n) × (below ≤ theta) × (e ≡ pos (n - theta)))
    ⊎ (((n ≤ 2 * theta) × ((n + parity) % 2 ≡ 0) × (e ≡ pos ((n + 1) / 2))) ⊎ ((n ≤ 2 * theta) × ((n + parity) % 2 ≡ 1) × (e ≡ neg_ℤ (pos ((n + 1) / 2))))))
error_cases theta below parity n e h = grind (arith, nat_tests)

abbrev pub NumberBy : ℕ → ℕ → Bool → ℕ → Type 0
NumberBy theta size sign n =
    ((theta < size) × (n ≡ size + theta)) ⊎ (((size ≤ theta) × (sign ≡ true) × (n ≡ 2 * size)) ⊎ ((size ≤ theta) × (sign ≡ false) × (n ≡ 2 * size - 1)))

abbrev ErrorBy : ℕ → ℕ → ℕ → ℕ → ℤ → Type 0
ErrorBy theta below parity n e =
    ((2 * theta < n) × (theta < below) × (e ≡ neg_ℤ (pos (n - theta)))) ⊎ (((2 * theta < n) × (below ≤ theta) × (e ≡ pos (n - theta)))
    ⊎ (((n ≤ 2 * theta) × ((n + parity) % 2 ≡ 0) × (e ≡ pos ((n + 1) / 2))) ⊎ ((n ≤ 2 * theta) × ((n + parity) % 2 ≡ 1) × (e ≡ neg_ℤ (pos ((n + 1) / 2))))))

same_error : (theta a b parity n : ℕ) (e r : ℤ) (sign : Bool) → theta ≡ min a b → neg_ℤ (pos a) ≤ℤ e → e ≤ℤ pos b → signed_by parity e sign
    → NumberBy theta (unsigned_abs e) sign n → ErrorBy theta a parity n r → r ≡ e
same_error theta a b parity n e r sign m low high s c d = grind (arith, ints)

-- the number of an error gives the error back
pub error_back : (a b parity n : ℕ) (e : ℤ) (sign : Bool) → neg_ℤ (pos a) ≤ℤ e → e ≤ℤ pos b → signed_by parity e sign
    → n ≡ number_of (min a b) (unsigned_abs e) sign → error_of (min a b) a parity n ≡ e
error_back a b parity n e sign low high s h =
    same_error (min a b) a b parity n e (error_of (min a b) a parity n) sign refl low high s (number_cases (min a b) (unsigned_abs e) n sign h)
    (error_cases (min a b) a parity n _ refl)

small_number : (theta a b parity n : ℕ) (e : ℤ) (sign : Bool) → theta ≡ min a b → neg_ℤ (pos a) ≤ℤ e → e ≤ℤ pos b
    → NumberBy theta (unsigned_abs e) sign n → n ≤ a + b
small_number theta a b parity n e sign m low high c = grind (arith, ints)

small_error : (theta a b parity n : ℕ) (e : ℤ) → theta ≡ min a b → n ≤ a + b → ErrorBy theta a parity n e → (neg_ℤ (pos a) ≤ℤ e) × (e ≤ℤ pos b)
small_error theta a b parity n e m h d = (grind (arith, ints), grind (arith, ints))

same_number : (theta a b parity n k : ℕ) (e : ℤ) (sign : Bool) → theta ≡ min a b → n ≤ a + b → ErrorBy theta a parity n e → signed_by parity e sign
    → NumberBy theta (unsigned_abs e) sign k → k ≡ n
same_number theta a b parity n k e sign m h d s c = grind (arith, ints)

pub half_low : (z : ℤ) → (pos 2 *ℤ floor_div z 2) ≤ℤ z
half_low (pos a) = omega (arith, ints)
half_low (negsuc a) = omega (arith, ints)

pub half_high : (z : ℤ) → z ≤ℤ (pos 2 *ℤ floor_div z 2 +ℤ pos 1)
half_high (pos a) = omega (arith, ints)
half_high (negsuc a) = omega (arith, ints)

back : (p e : ℤ) → (p +ℤ e) -ℤ p ≡ e
back p e = omega (arith, ints)

module _ (low high scaled : ℤ) (least : (pos 2 *ℤ low) ≤ℤ scaled) (most : scaled ≤ℤ (pos 2 *ℤ high +ℤ pos 1)) where
  inside : Between low high (floor_div scaled 2)
  inside = within low high scaled (floor_div scaled 2) least most (half_low scaled) (half_high scaled)

  pub error_bounds : (v : ℤ) → Between low high v → (neg_ℤ (pos (unsigned_abs (floor_div scaled 2 -ℤ low))) ≤ℤ (v -ℤ floor_div scaled 2))
      × ((v -ℤ floor_div scaled 2) ≤ℤ pos (unsigned_abs (high -ℤ floor_div scaled 2)))
  error_bounds v h = let i = inside in (omega (arith, ints), omega (arith, ints))

  whole : pos (unsigned_abs (floor_div scaled 2 -ℤ low) + unsigned_abs (high -ℤ floor_div scaled 2)) ≡ high -ℤ low
  whole = let i = inside in omega (arith, ints)

  pub number_in : (v : ℤ) → Between low high v → pos (mapped_between low high scaled v) ≤ℤ (high -ℤ low)
  unfolding mapped_between
  number_in v h =
      let p : ℤ = floor_div scaled 2 in let w = whole in
      let small : mapped_between low high scaled v ≤ unsigned_abs (p -ℤ low) + unsigned_abs (high -ℤ p) =
      small_number _ (unsigned_abs (p -ℤ low)) (unsigned_abs (high -ℤ p)) 0 (mapped_between low high scaled v) (v -ℤ p) _ refl (error_bounds v h).0
      (error_bounds v h).1
      (number_cases (theta_between low high p) (unsigned_abs (v -ℤ p)) (mapped_between low high scaled v) (agrees scaled (v -ℤ p)) refl) in
      omega (arith, ints)

  pub sample_back : (w : ℤ) → Between low high w → unmapped_between low high scaled (mapped_between low high scaled w) ≡ w
  unfolding mapped_between unmapped_between
  sample_back w h =
      let p : ℤ = floor_div scaled 2 in
      let e = error_back (unsigned_abs (p -ℤ low)) (unsigned_abs (high -ℤ p)) (unsigned_abs scaled) (mapped_between low high scaled w)
      (w -ℤ p) (agrees scaled (w -ℤ p)) (error_bounds w h).0 (error_bounds w h).1 (agrees_cases scaled (w -ℤ p) _ refl) refl in
      rw e (omega (arith, ints))

  pub sample_in : (n : ℕ) → pos n ≤ℤ (high -ℤ low) → Between low high (unmapped_between low high scaled n)
  unfolding unmapped_between
  sample_in n h =
      let p : ℤ = floor_div scaled 2 in let w = whole in let i = inside in
      let s = small_error (theta_between low high p) (unsigned_abs (p -ℤ low)) (unsigned_abs (high -ℤ p)) (unsigned_abs scaled) n _ refl
      (omega (arith, ints)) (error_cases (theta_between low high p) (unsigned_abs (p -ℤ low)) (unsigned_abs scaled) n _ refl) in
      (omega (arith, ints), omega (arith, ints))

  pub number_back : (n : ℕ) → pos n ≤ℤ (high -ℤ low) → mapped_between low high scaled (unmapped_between low high scaled n) ≡ n
  unfolding mapped_between unmapped_between
  number_back n h =
      let p : ℤ = floor_div scaled 2 in let w = whole in let e : ℤ = error_of (theta_between low high p) (unsigned_abs (p -ℤ low)) (unsigned_abs scaled) n in
      let same : (p +ℤ e) -ℤ p ≡ e = back p e in rw same
      (same_number (theta_between low high p) (unsigned_abs (p -ℤ low)) (unsigned_abs (high -ℤ p)) (unsigned_abs scaled) n _ e (agrees scaled e) refl
      (omega (arith, ints))
      (error_cases (theta_between low high p) (unsigned_abs (p -ℤ low)) (unsigned_abs scaled) n e refl) (agrees_cases scaled e _ refl)
      (number_cases (theta_between low high p) (unsigned_abs e) _ (agrees scaled e) refl))

-- a number within the span has as many bits
pub below : (low high : ℤ) (n power : ℕ) → high -ℤ low ≡ pos power -ℤ pos 1 → pos n ≤ℤ (high -ℤ low) → n < power
below low high n power e h = omega (arith, ints)

pub one_sample_lem : OneSample
one_sample_lem k scaled h s =
    let width : smax k -ℤ smin k ≡ pos (2 ^ k.bits) -ℤ pos 1 = span k h in (
      λ sample i. below (smin k) (smax k) (mapped k scaled sample) (2 ^ k.bits) width (number_in (smin k) (smax k) scaled s.0 s.1 sample i),
      λ n l. (
        unmapped_between (smin k) (smax k) scaled n,
        sample_in (smin k) (smax k) scaled s.0 s.1 n (below_span k n l),
        number_back (smin k) (smax k) scaled s.0 s.1 n (below_span k n l),
        λ other i e. sym (sample_back (smin k) (smax k) scaled s.0 s.1 other i) ∙ ap (unmapped_between (smin k) (smax k) scaled) e,
      ),
    )

pub unmapped_is : (low high scaled p e : ℤ) (theta below parity n : ℕ) → p ≡ floor_div scaled 2 → theta ≡ theta_between low high p
    → below ≡ unsigned_abs (p -ℤ low) → parity ≡ unsigned_abs scaled
    → e ≡ error_of theta below parity n → p +ℤ e ≡ unmapped_between low high scaled n
unfolding unmapped_between
unmapped_is low high scaled p e theta below parity n a b c d f = rw (f, b, c, d, a) refl
