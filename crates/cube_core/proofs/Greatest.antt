-- The greatest number that passes a test passes it, and none above it does.
use Rattle.std.proofs.Common.{◌≡◌, ◌∙◌, ℕ, zero, suc, ◌<◌, ◌≤◌, Bool, true, false, sym, inl, inr, arith}
use Rattle.std.proofs.lemmas.Bool.{cases_lt, true≢false}
use Rattle.cube_core.specs.Greatest.{greatest}

pub greatest_holds : (f : ℕ → Bool) (n : ℕ)
    → (1 ≤ greatest f n → f (greatest f n) ≡ true) × (greatest f n ≤ n) × ((m : ℕ) → greatest f n < m → m ≤ n → f m ≡ false)
unfolding greatest
greatest_holds f zero = (λ some. absurd (omega (arith, some)), omega arith, λ m above le. absurd (omega arith))
greatest_holds f (suc n) = grind (arith, greatest_holds f n)

pub greatest_is : (f : ℕ → Bool) (n limit : ℕ) → n ≤ limit → f n ≡ true → ((m : ℕ) → n < m → m ≤ limit → f m ≡ false) → greatest f limit ≡ n
greatest_is f n limit le passes above =
    let h = greatest_holds f limit in
    elim (cases_lt n (greatest f limit)) [
      | inl lt ↦ absurd (true≢false (sym (h.0 (omega arith)) ∙ above _ lt h.1))
      | inr ge ↦ elim (cases_lt (greatest f limit) n) [ inl lt ↦ absurd (true≢false (sym passes ∙ h.2 n lt le)) | inr same ↦ omega arith ]
    ]
