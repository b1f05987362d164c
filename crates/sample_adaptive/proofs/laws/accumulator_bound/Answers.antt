use Rattle.sample_adaptive.proofs.Bodies.{accumulator_bound}
use Rattle.sample_adaptive.proofs.laws.accumulator_bound.Goals as goal

pub returns : goal.returns
returns c = accumulator_bound
