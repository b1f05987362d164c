use Rattle.std.proofs.Common.{◌+◌, ◌<◌, arith, rules}
use Rattle.block_adaptive.proofs.Stored.{held_inside, held_few, stored_after}
use Rattle.block_adaptive.proofs.block_writer.BlockWriter.pack.Goals as goal
use Rattle.block_adaptive.proofs.block_writer.BlockWriter.pack.Goals.{After-self}

-- the block that is held is one of the count
more : (c : After-self) → c.self.inside.start + c.self.inside.zeros < c.self.inside.count
more c = rw (← c.self.view_is) at c.requires.more

pub write_data_sets-requires-clause-left : goal.write_data_sets-requires-clause-left
write_data_sets-requires-clause-left c = held_inside _ _ _ _ _ c.self.invariant (more (goal.at.write_data_sets-requires-clause-left c).After-self)

pub returns-in_err-zeros-clause-same : goal.returns-in_err-zeros-clause-same
returns-in_err-zeros-clause-same c = search rules

pub overflow_add-self-inside : goal.overflow_add-self-inside
overflow_add-self-inside c =
    record { fits = omega (arith, held_few _ _ _ _ _ c.self.invariant (more (goal.at.overflow_add-self-inside c).After-self)) }

pub invariant_of-self : goal.invariant_of-self
invariant_of-self c =
    rw (c.from.ensures, c.in_ok-zeros.ensures.held) (stored_after _ c.self.inside.start c.self.inside.zeros c.self.inside.total _ c.args.block.now
    c.self.invariant (more (goal.at.invariant_of-self c).After-self))
