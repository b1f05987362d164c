use Rattle.std.proofs.Common.{arith, rules}
use Rattle.std.proofs.lemmas.Grind.{common_steps}
use Rattle.block_adaptive.proofs.Handed.{nothing_held}
use Rattle.block_adaptive.proofs.block_reader.BlockReader.new.Goals as goal

pub invariant_of-result : goal.invariant_of-result
invariant_of-result c = grind (arith, common_steps)

pub returns-clause-given : goal.returns-clause-given
returns-clause-given c = grind (arith, nothing_held)

pub returns-clause-count : goal.returns-clause-count
returns-clause-count c = search rules
