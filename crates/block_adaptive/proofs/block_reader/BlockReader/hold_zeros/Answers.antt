use Rattle.std.proofs.Common.{arith}
use Rattle.block_adaptive.specs.contracts.block_reader.BlockReader.{the_view}
use Rattle.block_adaptive.proofs.Handed.{rest_small, run_parts}
use Rattle.block_adaptive.proofs.Places.{run_in_hand}
use Rattle.std.proofs.lemmas.Grind.{common_steps}
use Rattle.block_adaptive.proofs.block_reader.BlockReader.hold_zeros.Goals as goal

pub overflow_mul-self : goal.overflow_mul-self
overflow_mul-self c = grind (arith, rest_small)

pub invariant_of-self : goal.invariant_of-self
invariant_of-self c =
    rw c.from.ensures (run_parts (the_view c.self.inside).cut c.self.inside.block _ _ c.args.blocks c.self.invariant (rw (← c.self.view_is) at c.requires.1))

pub returns-clause-zeros : goal.returns-clause-zeros
returns-clause-zeros c = grind (arith, run_in_hand)

pub returns-clause-some : goal.returns-clause-some
returns-clause-some c = grind (arith, common_steps)

pub returns-clause-counted : goal.returns-clause-counted
returns-clause-counted c = grind (arith, common_steps)
