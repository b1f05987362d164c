use Rattle.std.proofs.Common.{arith}
use Rattle.std.proofs.lemmas.Grind.{common_steps}
use Rattle.block_adaptive.specs.DataSets.{spelled}
use Rattle.block_adaptive.proofs.writing.write_block.Goals as goal

pub returns-clause-appended : goal.returns-clause-appended
unfolding spelled
returns-clause-appended c = grind (arith, common_steps)
