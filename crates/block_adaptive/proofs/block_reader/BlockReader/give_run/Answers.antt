use Rattle.std.proofs.Common.{arith}
use Rattle.std.proofs.lemmas.Grind.{common_steps}
use Rattle.block_adaptive.proofs.Places.{first_of_hand, zeros_of_hand}
use Rattle.block_adaptive.proofs.block_reader.BlockReader.give_run.Goals as goal

pub returns-then-self-clause-front : goal.returns-then-self-clause-front
returns-then-self-clause-front c = grind (arith, common_steps, first_of_hand)

pub returns-then-self-clause-counted : goal.returns-then-self-clause-counted
returns-then-self-clause-counted c = grind (arith, common_steps)

pub returns-else-self-clause-front : goal.returns-else-self-clause-front
returns-else-self-clause-front c = grind (arith, common_steps, zeros_of_hand)

pub returns-else-self-clause-some : goal.returns-else-self-clause-some
returns-else-self-clause-some c = grind (arith, common_steps)

pub returns-else-self-clause-counted : goal.returns-else-self-clause-counted
returns-else-self-clause-counted c = grind (arith, common_steps)
