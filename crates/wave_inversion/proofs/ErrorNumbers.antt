-- Errors by their numbers: where both signs alternate, and beyond the nearer end of the range.
use Rattle.std.proofs.Common.{◌≡◌, ◌+◌, ◌*◌, ◌/◌, ◌%◌, ◌<◌, ℕ, ℤ, pos, ◌+ℤ◌, ◌-ℤ◌, ◌≤ℤ◌, unsigned_abs, inl, inr, arith}
use Rattle.std.proofs.lemmas.Bool.{cases_lt}
use Rattle.std.proofs.lemmas.Bool.Decides.{nat_tests}
use Rattle.std.proofs.lemmas.Int.{ints}
use Rattle.sample_prediction.specs.Mapping.{error_of}
use Rattle.sample_prediction.specs.Residual.{theta_between}

-- the error of a number beyond twice the distance to the nearer end
pub far_error : (g value : ℤ) (theta n : ℕ) → pos 0 ≤ℤ value → value ≤ℤ g → theta ≡ theta_between (pos 0) g value → 2 * theta < n → (parity : ℕ) (out : ℤ)
    → ((g -ℤ value +ℤ pos 1) ≤ℤ value → out ≡ g -ℤ pos n) → (value ≤ℤ (g -ℤ value) → out ≡ pos n)
    → out -ℤ value ≡ error_of theta (unsigned_abs (value -ℤ pos 0)) parity n
far_error g value theta n low high is beyond parity out above below =
    let test : (unsigned_abs (value -ℤ pos 0) ≡ unsigned_abs value) = omega (arith, ints, low) in
    elim (cases_lt theta (unsigned_abs (value -ℤ pos 0))) [
      | inl up ↦ (let o = above (omega (arith, ints, low, high, is, up)) in grind (arith, ints, nat_tests, o, is, up, beyond, low, high))
      | inr down ↦ (let o = below (omega (arith, ints, low, high, is, down)) in grind (arith, ints, nat_tests, o, is, down, beyond, low, high))
    ]

pub near_error : (value : ℤ) (theta below n parity : ℕ) (out : ℤ) → n < 2 * theta + 1
    → ((n + parity) % 2 ≡ 0 → out ≡ value +ℤ pos ((n + 1) / 2)) → ((n + parity) % 2 ≡ 1 → out ≡ value -ℤ pos ((n + 1) / 2))
    → out -ℤ value ≡ error_of theta below parity n
near_error value theta below n parity out within even odd = elim (cases_lt 0 ((n + parity) % 2)) [
  | inl one ↦ (let o = odd (omega (arith, one)) in grind (arith, ints, nat_tests, o, one, within))
  | inr none ↦ (let o = even (omega (arith, none)) in grind (arith, ints, nat_tests, o, none, within))
]
