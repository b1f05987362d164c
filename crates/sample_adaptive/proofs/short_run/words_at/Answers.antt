use Rattle.sample_adaptive.proofs.Counting.{counter_range, accumulator_range}
use Rattle.sample_adaptive.proofs.short_run.words_at.Goals as goal

pub parameter-requires-clause-counter : goal.parameter-requires-clause-counter
parameter-requires-clause-counter c = counter_range _ _ (c.args.settings.rescaling.size_in).1 c.requires

pub parameter-requires-clause-accumulator : goal.parameter-requires-clause-accumulator
parameter-requires-clause-accumulator c = accumulator_range _ _ (c.args.settings.rescaling.size_in).1 c.requires
