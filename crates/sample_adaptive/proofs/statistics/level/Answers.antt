use Rattle.std.proofs.Common.{arith}
use Rattle.sample_adaptive.proofs.statistics.level.Goals as goal

pub returns : goal.returns
returns c = omega arith
