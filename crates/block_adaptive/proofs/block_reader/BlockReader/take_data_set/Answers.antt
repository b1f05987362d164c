use Rattle.std.proofs.Common.{arith}
use Rattle.std.proofs.lemmas.Grind.{common_steps}
use Rattle.block_adaptive.proofs.block_reader.BlockReader.take_data_set.Goals as goal

pub hold_zeros-requires : goal.hold_zeros-requires
hold_zeros-requires c = (rw c.in-Ok-Run.field-0-is at c.in-Ok-Run.ensures.found).1

pub returns-in-Ok-Block-clause-read : goal.returns-in-Ok-Block-clause-read
returns-in-Ok-Block-clause-read c = grind (arith, common_steps)

pub returns-in-Ok-Block-clause-some : goal.returns-in-Ok-Block-clause-some
returns-in-Ok-Block-clause-some c = grind (arith, common_steps)

pub returns-in-Ok-Block-clause-counted : goal.returns-in-Ok-Block-clause-counted
returns-in-Ok-Block-clause-counted c = grind (arith, common_steps)

pub returns-in-Err-clause-refused : goal.returns-in-Err-clause-refused
returns-in-Err-clause-refused c = grind (arith, common_steps)

pub returns-in-Err-clause-same : goal.returns-in-Err-clause-same
returns-in-Err-clause-same c = search
