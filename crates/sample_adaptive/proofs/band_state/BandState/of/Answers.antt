use Rattle.sample_adaptive.proofs.Counting.{counter_range, accumulator_range}
use Rattle.sample_adaptive.proofs.band_state.BandState.of.Goals as goal

pub parameter-k-requires-clause-counter : goal.parameter-k-requires-clause-counter
parameter-k-requires-clause-counter c = counter_range _ _ (c.args.settings.rescaling.size_in).1 c.requires

pub parameter-k-requires-clause-accumulator : goal.parameter-k-requires-clause-accumulator
parameter-k-requires-clause-accumulator c = accumulator_range _ _ (c.args.settings.rescaling.size_in).1 c.requires
