-- Successive residuals of a band that have one code parameter.
use Rattle.std.proofs.Common.{◌≡◌, ℕ, ◌+◌, ◌-◌, ◌*◌, ◌^◌, ◌<◌, ◌≤◌, List, length, take, get_or, sym, arith}
use Rattle.header_bits.specs.Bits.{Unread}
use Rattle.sample_adaptive.specs.declared.statistics.Statistics.{Statistics}
use Rattle.sample_adaptive.specs.Statistics.{code_parameter}
use Rattle.sample_adaptive.specs.Taken.{CoderState, Reaches}
use Rattle.sample_adaptive.specs.Thresholds.{AreThresholds}
use Rattle.sample_adaptive.proofs.Eights.{threshold_grows}
use Rattle.sample_adaptive.proofs.PieceEnds.{entry_is}
use Rattle.sample_adaptive.proofs.Table.{parameter_between, size_power}

-- the lower threshold of the last counter, and the upper one of the first, are enough for those between
pub kept_along : (bits size k place first few taken accumulator : ℕ) (table : List ℕ) → AreThresholds bits size table → k + 2 ≤ bits → first + few ≤ 2 ^ size
    → taken < few → place ≡ 520 * k + first → get_or table (place + (few - 1)) 0 ≤ accumulator → accumulator < get_or table (place + 520) 0
    → k ≡ code_parameter bits (record { counter = first + taken; accumulator = accumulator })
kept_along bits size k place first few taken accumulator table h inside within lt is low high =
    let s : Statistics = record { counter = first + taken; accumulator = accumulator } in
    let last = entry_is bits size k (first + (few - 1)) (place + (few - 1)) table h (omega (arith, inside)) (omega (arith, within, lt)) (omega (arith, is)) in
    let above = entry_is bits size (k + 1) first (place + 520) table h (omega (arith, inside)) (omega (arith, within, lt)) (omega (arith, is)) in
    let rest : first + taken + (few - 1 - taken) ≡ first + (few - 1) = omega (arith, lt) in
    let lower = rw rest at (threshold_grows bits k (first + taken) (few - 1 - taken)) in
    let upper = threshold_grows bits (k + 1) first taken in
    sym (parameter_between bits s k inside (omega (arith, last, lower, low)) (omega (arith, above, upper, high)))

-- the table has both entries
pub last_inside : (bits size k place first few : ℕ) (table : List ℕ) → AreThresholds bits size table → k + 2 ≤ bits → bits ≤ 16 → size ≤ 9
    → first + few ≤ 2 ^ size → 1 ≤ few → place ≡ 520 * k + first → place + (few - 1) + 520 < length table
last_inside bits size k place first few table h within few_bits small below some is =
    omega (arith, size_power size small, below, h.size, is, within, few_bits, some)

-- only the first residuals count
pub same_front : (zs ts : ℕ → ℕ) (k index i : ℕ) (v w : CoderState) (first now : Unread) (residuals others : List ℕ) → take i others ≡ take i residuals
    → Reaches zs ts k index i v w first now residuals → Reaches zs ts k index i v w first now others
same_front zs ts k index i v w first now residuals others same h = record { append = λ r new left ys given. rw same (h.append r new left ys given) }
