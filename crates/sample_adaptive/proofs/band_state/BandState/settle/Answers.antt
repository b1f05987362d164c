use Rattle.std.proofs.Common.{◌≡◌, ◌+◌, ◌*◌, ◌^◌, ◌<◌, sym, ◌∙◌, arith}
use Rattle.sample_adaptive.proofs.Counting.{counter_range, accumulator_range}
use Rattle.sample_adaptive.proofs.Table.{parameter_between}
use Rattle.sample_adaptive.proofs.band_state.BandState.settle.Goals as goal

pub bounds-thresholds-at : goal.bounds-thresholds-at
bounds-thresholds-at c =
    let counter = counter_range _ _ c.args.settings.rescaling.size_in.1 c.requires.state.statistics in
    omega (arith, c.requires.table.size, c.requires.state.k, c.args.settings.bits_in, counter)

pub bounds-thresholds-at-then-thresholds-at : goal.bounds-thresholds-at-then-thresholds-at
bounds-thresholds-at-then-thresholds-at c =
    let counter = counter_range _ _ c.args.settings.rescaling.size_in.1 c.requires.state.statistics in
    omega (arith, c.requires.table.size, c.requires.state.k, c.args.settings.bits_in, counter)

pub returns-then-s-thresholds-clause-value : goal.returns-then-s-thresholds-clause-value
returns-then-s-thresholds-clause-value c =
    let s = c.args.self.now.statistics in
    let k = c.args.self.now.k in
    let inside : s.counter < 2 ^ c.args.settings.rescaling.size + 8 = omega (arith, c.requires.state.statistics.most) in
    let above : 520 * (k + 1) + s.counter ≡ 520 * k + s.counter + 520 = omega arith in
    let least = c.requires.table.entries k s.counter (omega (arith, c.requires.state.k)) inside in
    let most = c.requires.table.entries (k + 1) s.counter (omega (arith, c.requires.state.k)) inside in
    sym (parameter_between c.args.settings.bits s k c.requires.state.k (omega (arith, least, c.if-thresholds-at.true))
    (omega (arith, rw above at most, c.if-s-thresholds.true)))

pub rare_parameter-k-requires-clause-counter : goal.rare_parameter-k-requires-clause-counter
rare_parameter-k-requires-clause-counter c = counter_range _ _ c.args.settings.rescaling.size_in.1 c.requires.state.statistics

pub rare_parameter-k-requires-clause-accumulator : goal.rare_parameter-k-requires-clause-accumulator
rare_parameter-k-requires-clause-accumulator c = accumulator_range _ _ c.args.settings.rescaling.size_in.1 c.requires.state.statistics

pub with_parameter-requires : goal.with_parameter-requires
with_parameter-requires c = (
  omega (arith, c.rare_parameter-k.ensures.most, c.args.settings.bits_in),
  (counter_range _ _ c.args.settings.rescaling.size_in.1 c.requires.state.statistics).1,
)

pub returns-clause-value : goal.returns-clause-value
returns-clause-value c = c.with_parameter.ensures.k ∙ c.rare_parameter-k.ensures.value
