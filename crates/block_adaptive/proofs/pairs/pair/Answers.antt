use Rattle.std.proofs.Common.{rules}
use Rattle.block_adaptive.specs.Reading.{pair_of}
use Rattle.block_adaptive.proofs.pairs.pair.Goals as goal

pub returns-clause-found : goal.returns-clause-found
unfolding pair_of
returns-clause-found c = search rules
