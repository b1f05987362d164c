use Rattle.std.proofs.Common.{ℕ, ◌≡◌, ◌+◌, ◌*◌, ◌^◌, ◌<◌, sym, arith}
use Rattle.sample_adaptive.proofs.Counting.{counter_range, accumulator_range}
use Rattle.sample_adaptive.proofs.Table.{parameter_between}
use Rattle.sample_adaptive.proofs.kept_code.KeptCode.settled.Goals as goal

pub bounds-thresholds-at : goal.bounds-thresholds-at
bounds-thresholds-at c =
    let bits = c.args.settings.bits_in in
    let counter = counter_range _ _ (c.args.settings.rescaling.size_in.1) c.requires.statistics in
    omega (arith, c.requires.table.size, c.requires.kept.first, c.requires.kept.k, bits, counter)

pub bounds-thresholds-at-then-thresholds-at : goal.bounds-thresholds-at-then-thresholds-at
bounds-thresholds-at-then-thresholds-at c =
    let bits = c.args.settings.bits_in in
    let counter = counter_range _ _ (c.args.settings.rescaling.size_in.1) c.requires.statistics in
    omega (arith, c.requires.table.size, c.requires.kept.first, c.requires.kept.k, bits, counter)

pub returns-then-accumulator-thresholds-clause-k : goal.returns-then-accumulator-thresholds-clause-k
returns-then-accumulator-thresholds-clause-k c =
    let bits = c.args.settings.bits_in in
    let k = c.args.self.k in
    let counter : ℕ = c.args.counter + c.args.i in
    let inside : counter < 2 ^ c.args.settings.rescaling.size + 8 = omega (arith, c.requires.statistics.most) in
    let here : 520 * k + counter ≡ c.args.self.first + c.args.i = omega (arith, c.requires.kept.first) in
    let above : 520 * (k + 1) + counter ≡ c.args.self.first + c.args.i + 520 = omega (arith, c.requires.kept.first) in
    let least = c.requires.table.entries k counter (omega (arith, c.requires.kept.k)) inside in
    let most = c.requires.table.entries (k + 1) counter (omega (arith, c.requires.kept.k)) inside in
    sym (parameter_between c.args.settings.bits (record { counter = c.args.counter + c.args.i; accumulator = c.args.accumulator }) k c.requires.kept.k (omega (arith, rw here at least, c.if-thresholds-at.true))
    (omega (arith, rw above at most, c.if-accumulator-thresholds.true)))

pub anew-requires-clause-counter : goal.anew-requires-clause-counter
anew-requires-clause-counter c = counter_range _ _ (c.args.settings.rescaling.size_in.1) c.requires.statistics

pub anew-requires-clause-accumulator : goal.anew-requires-clause-accumulator
anew-requires-clause-accumulator c = accumulator_range _ _ (c.args.settings.rescaling.size_in.1) c.requires.statistics
