-- Reserved bits, one after another.
use Rattle.std.proofs.Common.{◌≡◌, ℕ, suc, ◌+◌, ◌-◌, ◌/◌, ◌^◌, ◌<◌, ◌≤◌, Err, refl, sym, ap, ◌∙◌, arith}
use Rattle.std.proofs.lemmas.Bool.{eq-eqb, ne_eqb}
use Rattle.cube_core.specs.declared.fault.Fault.TheVariants.{Reserved}
use Rattle.cube_core.specs.Steps.{Test}
use Rattle.header_bits.specs.Parts.{fine, reserved_test}

pub reserved_next : (at n i value : ℕ) (all : Test) → i < n → reserved_test (at + i) (n - i) value ≡ all → value / 2 ^ (n - 1 - i) ≡ 0
    → reserved_test (at + (i + 1)) (n - (i + 1)) value ≡ all
unfolding reserved_test
reserved_next at n i value all lt so_far none =
    let m : ℕ = n - 1 - i in
    let before : n - i ≡ suc m = omega arith in
    let after : n - (i + 1) ≡ m = omega arith in
    let position : at + (i + 1) ≡ at + i + 1 = omega arith in
    let step : reserved_test (at + i) (n - i) value ≡ reserved_test (at + i + 1) m value =
    ap (λ k. reserved_test (at + i) k value) before ∙ rw (eq-eqb (value / 2 ^ m) 0 none) refl in
    ap (λ k. reserved_test (at + (i + 1)) k value) after ∙ ap (λ k. reserved_test k m value) position ∙ sym step ∙ so_far

pub reserved_found : (at n i value : ℕ) (all : Test) → i < n → reserved_test (at + i) (n - i) value ≡ all → (value / 2 ^ (n - 1 - i) ≡ 0 → ⊥)
    → all ≡ Err (Reserved (at + i))
unfolding reserved_test
reserved_found at n i value all lt so_far some =
    let m : ℕ = n - 1 - i in
    let before : n - i ≡ suc m = omega arith in
    sym so_far ∙ ap (λ k. reserved_test (at + i) k value) before ∙ rw (ne_eqb (value / 2 ^ m) 0 some) refl

pub reserved_done : (at n i value : ℕ) (all : Test) → n ≤ i → reserved_test (at + i) (n - i) value ≡ all → all ≡ fine
unfolding reserved_test
reserved_done at n i value all le so_far =
    let none : n - i ≡ 0 = omega arith in
    sym so_far ∙ ap (λ k. reserved_test (at + i) k value) none
