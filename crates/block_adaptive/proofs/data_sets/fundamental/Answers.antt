use Rattle.std.proofs.Common.{rules}
use Rattle.block_adaptive.specs.Reading.{fundamental_at}
use Rattle.block_adaptive.proofs.data_sets.fundamental.Goals as goal

pub returns-clause-read : goal.returns-clause-read
unfolding fundamental_at
returns-clause-read c = search rules

pub returns-clause-bound : goal.returns-clause-bound
returns-clause-bound c = search
