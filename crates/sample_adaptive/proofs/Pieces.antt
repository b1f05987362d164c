-- Statistics after several residuals. The counter is halved at the end of a piece: within it, the residuals are counted and summed.
use Rattle.std.proofs.Common.{◌≡◌, ℕ, ◌+◌, ◌-◌, ◌/◌, ◌^◌, ◌<◌, List, [], ◌∷◌, ◌++◌, length, refl, arith}
use Rattle.std.proofs.lemmas.Bool.{lt-ltb, le-ltb}
use Rattle.std.proofs.lemmas.List.Sums.{sum_by-cons}
use Rattle.std.specs.List.{sum}
use Rattle.sample_adaptive.specs.declared.statistics.Statistics.{Statistics}
use Rattle.sample_adaptive.specs.Statistics.{next_statistics, statistics_from}

pub statistics_append : (gamma_star : ℕ) (s : Statistics) (xs ys : List ℕ)
    → statistics_from gamma_star s (xs ++ ys) ≡ statistics_from gamma_star (statistics_from gamma_star s xs) ys
unfolding statistics_from
statistics_append gamma_star s [] ys = refl
statistics_append gamma_star s (x ∷ xs) ys = statistics_append gamma_star (next_statistics gamma_star s x) xs ys

-- one residual, before the counter reaches 2^γ*
pub counts_one : (gamma_star : ℕ) (s : Statistics) (residual : ℕ) → s.counter + 1 < 2 ^ gamma_star
    → next_statistics gamma_star s residual ≡ record { counter = s.counter + 1; accumulator = s.accumulator + residual }
unfolding next_statistics
counts_one gamma_star s residual few = rw (lt-ltb s.counter (2 ^ gamma_star - 1) (omega (arith, few))) refl

-- the residual with which the counter would reach 2^γ*
pub halves_at_one : (gamma_star : ℕ) (s : Statistics) (residual : ℕ) → s.counter + 1 ≡ 2 ^ gamma_star
    → next_statistics gamma_star s residual ≡ record { counter = 2 ^ gamma_star / 2; accumulator = (s.accumulator + residual + 1) / 2 }
unfolding next_statistics
halves_at_one gamma_star s residual full = rw (le-ltb s.counter (2 ^ gamma_star - 1) (omega (arith, full)), full) refl

pub sum_first : (x : ℕ) (xs : List ℕ) → sum (x ∷ xs) ≡ x + sum xs
sum_first x xs = sum_by-cons (λ n. n) x xs

-- residuals after which the counter is still below 2^γ*: they are counted and summed
pub counts_within : (gamma_star : ℕ) (s : Statistics) (residuals : List ℕ) → s.counter + length residuals < 2 ^ gamma_star
    → statistics_from gamma_star s residuals ≡ record { counter = s.counter + length residuals; accumulator = s.accumulator + sum residuals }
unfolding statistics_from
counts_within gamma_star s [] few =
    let counter : s.counter + 0 ≡ s.counter = omega arith in let accumulator : s.accumulator + 0 ≡ s.accumulator = omega arith in rw (counter, accumulator) refl
counts_within gamma_star s (x ∷ xs) few =
    let next : Statistics = record { counter = s.counter + 1; accumulator = s.accumulator + x } in
    let one = counts_one gamma_star s x (omega (arith, few)) in
    let counter : s.counter + 1 + length xs ≡ s.counter + length (x ∷ xs) = omega arith in
    let accumulator : s.accumulator + x + sum xs ≡ s.accumulator + sum (x ∷ xs) = omega (arith, sum_first x xs) in
    rw (one, ← counter, ← accumulator) (counts_within gamma_star next xs (omega (arith, few)))

-- residuals with the last of which the counter would reach 2^γ*: counted and summed, and then both numbers are halved
pub halves_at_end : (gamma_star : ℕ) (s : Statistics) (residuals : List ℕ) → 0 < length residuals → s.counter + length residuals ≡ 2 ^ gamma_star
    → statistics_from gamma_star s residuals ≡ record { counter = 2 ^ gamma_star / 2; accumulator = (s.accumulator + sum residuals + 1) / 2 }
unfolding statistics_from
halves_at_end gamma_star s [] some full = absurd (omega (arith, some))
halves_at_end gamma_star s (x ∷ []) some full =
    let accumulator : s.accumulator + x + 1 ≡ s.accumulator + sum (x ∷ []) + 1 = omega arith in
    rw (← accumulator) (halves_at_one gamma_star s x (omega (arith, full)))
halves_at_end gamma_star s (x ∷ y ∷ xs) some full =
    let next : Statistics = record { counter = s.counter + 1; accumulator = s.accumulator + x } in
    let one = counts_one gamma_star s x (omega (arith, full)) in
    let accumulator : s.accumulator + x + sum (y ∷ xs) ≡ s.accumulator + sum (x ∷ y ∷ xs) = omega (arith, sum_first x (y ∷ xs)) in
    rw (one, ← accumulator) (halves_at_end gamma_star next (y ∷ xs) (omega arith) (omega (arith, full)))
