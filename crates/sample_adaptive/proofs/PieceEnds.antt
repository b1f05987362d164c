-- Statistics that are counted within a piece, and halved at its end.
use Rattle.std.proofs.Common.{◌≡◌, ℕ, suc, List, length, get_or, ◌+◌, ◌-◌, ◌*◌, ◌/◌, ◌^◌, ◌<◌, ◌≤◌, refl, sym, ap, ◌∙◌, inl, inr, arith, eq-eqb}
use Rattle.std.proofs.lemmas.Bool.{cases_eq, ne_eqb}
use Rattle.std.proofs.lemmas.Nat.{pow_pos}
use Rattle.std.proofs.Math.Nat.{pow-succ'}
use Rattle.sample_adaptive.specs.declared.statistics.Statistics.{Statistics}
use Rattle.sample_adaptive.specs.Pieces.{AreCounted, at_piece_end}
use Rattle.sample_adaptive.specs.Statistics.{AreStatistics, next_statistics, code_parameter}
use Rattle.sample_adaptive.specs.Thresholds.{AreThresholds, threshold}
use Rattle.sample_adaptive.proofs.Pieces.{counts_one, halves_at_one}
use Rattle.sample_adaptive.proofs.Table.{parameter_between, size_power}

pub within_piece : (gamma_star : ℕ) (s : Statistics) → s.counter < 2 ^ gamma_star → at_piece_end gamma_star s ≡ s
within_piece gamma_star s few = rw (ne_eqb s.counter (2 ^ gamma_star) (λ e. omega (arith, few, e))) refl

-- one residual more
pub next_counted : (gamma_star : ℕ) (s next : Statistics) (residual : ℕ) → s.counter < 2 ^ gamma_star
    → next ≡ record { counter = s.counter + 1; accumulator = s.accumulator + residual }
    → at_piece_end gamma_star next ≡ next_statistics gamma_star s residual
next_counted gamma_star s next residual few e =
    elim (cases_eq (s.counter + 1) (2 ^ gamma_star)) [
      | inl full ↦ rw (e, eq-eqb (s.counter + 1) (2 ^ gamma_star) full) (sym (halves_at_one gamma_star s residual full))
      | inr other ↦ rw (e, ne_eqb (s.counter + 1) (2 ^ gamma_star) other) (sym (counts_one gamma_star s residual (omega (arith, few, other))))
    ]

pub counted_more : (gamma_star : ℕ) (s next : Statistics) (residual : ℕ) → AreCounted gamma_star s → s.counter < 2 ^ gamma_star → residual < 65536
    → next ≡ record { counter = s.counter + 1; accumulator = s.accumulator + residual } → AreCounted gamma_star next
counted_more gamma_star s next residual h few small e =
    rw e (record { least = omega arith; most = omega (arith, few); bound = omega (arith, h.bound, small) })

pub counted_within : (gamma_star : ℕ) (s : Statistics) → AreCounted gamma_star s → s.counter < 2 ^ gamma_star → AreStatistics gamma_star s
counted_within gamma_star s h few = record { least = h.least; most = few; bound = h.bound }

pub statistics_counted : (gamma_star : ℕ) (s : Statistics) → AreStatistics gamma_star s → AreCounted gamma_star s
statistics_counted gamma_star s h = record { least = h.least; most = omega (arith, h.most); bound = h.bound }

pub ended_in_range : (gamma_star : ℕ) (s : Statistics) (counter : ℕ) → 1 ≤ gamma_star → AreCounted gamma_star s → s.counter ≡ 2 ^ gamma_star
    → counter ≡ 2 ^ gamma_star / 2 → AreStatistics gamma_star (record { counter = counter; accumulator = (s.accumulator + 1) / 2 })
ended_in_range gamma_star s counter least h full half =
    let e : suc (gamma_star - 1) ≡ gamma_star = omega arith in
    let twice : 2 ^ gamma_star ≡ 2 * 2 ^ (gamma_star - 1) = ap (λ k. 2 ^ k) (sym e) ∙ pow-succ' 2 (gamma_star - 1) in
    let some = pow_pos (gamma_star - 1) in
    record { least = omega (arith, some, twice, half); most = omega (arith, some, twice, half); bound = omega (arith, some, twice, half, full, h.bound) }

-- ---- the code parameter between two entries of the table

pub entry_is : (bits size k counter place : ℕ) (table : List ℕ) → AreThresholds bits size table → k ≤ bits → counter < 2 ^ size → place ≡ 520 * k + counter
    → get_or table place 0 ≡ threshold bits k counter
entry_is bits size k counter place table h within below is = ap (λ p. get_or table p 0) is ∙ h.entries k counter within (omega (arith, below))

pub kept_between : (bits size k place : ℕ) (s : Statistics) (table : List ℕ) → AreThresholds bits size table → k + 2 ≤ bits → s.counter < 2 ^ size
    → place ≡ 520 * k + s.counter → get_or table place 0 ≤ s.accumulator → s.accumulator < get_or table (place + 520) 0 → k ≡ code_parameter bits s
kept_between bits size k place s table h inside most is low high =
    let first = entry_is bits size k s.counter place table h (omega (arith, inside)) most is in
    let second = entry_is bits size (k + 1) s.counter (place + 520) table h (omega (arith, inside)) most (omega (arith, is)) in
    sym (parameter_between bits s k inside (omega (arith, first, low)) (omega (arith, second, high)))

pub entry_inside : (bits size k counter place : ℕ) (table : List ℕ) → AreThresholds bits size table → k + 2 ≤ bits → bits ≤ 16 → size ≤ 9 → counter < 2 ^ size
    → place ≡ 520 * k + counter → place + 520 < length table
entry_inside bits size k counter place table h within few small below is =
    omega (arith, size_power size small, below, h.size, is, within, few)
