use Rattle.std.proofs.Common.{rules}
use Rattle.sample_adaptive.proofs.statistics.counted.Goals as goal

pub returns : goal.returns
returns c = search rules
