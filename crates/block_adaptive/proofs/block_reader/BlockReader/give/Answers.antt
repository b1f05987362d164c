use Rattle.std.proofs.Common.{arith}
use Rattle.std.proofs.lemmas.Grind.{common_steps}
use Rattle.block_adaptive.proofs.Places.{first_in_hand}
use Rattle.block_adaptive.proofs.block_reader.BlockReader.give.Goals as goal

pub overflow_sub-self : goal.overflow_sub-self
overflow_sub-self c = grind (arith, common_steps)

pub returns-then-self-clause-first : goal.returns-then-self-clause-first
returns-then-self-clause-first c = grind (arith, first_in_hand)

pub returns-then-self-clause-counted : goal.returns-then-self-clause-counted
returns-then-self-clause-counted c = grind (arith, common_steps)

pub returns-else-self-clause-first : goal.returns-else-self-clause-first
returns-else-self-clause-first c = grind (arith, common_steps)

pub returns-else-self-clause-counted : goal.returns-else-self-clause-counted
returns-else-self-clause-counted c = grind (arith, common_steps)
