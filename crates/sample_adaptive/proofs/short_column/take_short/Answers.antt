use Rattle.std.proofs.Common.{arith}
use Rattle.sample_adaptive.proofs.Counting.{counter_range, accumulator_range}
use Rattle.sample_adaptive.proofs.short_column.take_short.Goals as goal

pub renewed-k-requires-clause-counter : goal.renewed-k-requires-clause-counter
renewed-k-requires-clause-counter c = counter_range _ _ (c.args.settings.rescaling.size_in).1 c.requires.state.statistics

pub renewed-k-requires-clause-accumulator : goal.renewed-k-requires-clause-accumulator
renewed-k-requires-clause-accumulator c = accumulator_range _ _ (c.args.settings.rescaling.size_in).1 c.requires.state.statistics

pub with_parameter-requires : goal.with_parameter-requires
with_parameter-requires c = (
  omega (arith, c.renewed-k.ensures.most, c.args.settings.bits_in),
  (counter_range _ _ c.args.settings.rescaling.size_in.1 c.requires.state.statistics).1,
)
