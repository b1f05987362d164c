use Rattle.std.proofs.Common.{rules}
use Rattle.block_adaptive.specs.Reading.{low_at}
use Rattle.block_adaptive.proofs.lows.whole.Goals as goal

pub returns-clause-read : goal.returns-clause-read
unfolding low_at
returns-clause-read c = search rules
