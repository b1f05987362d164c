use Rattle.std.proofs.lemmas.Grind.{common_steps}
use Rattle.std.proofs.Common.{arith}
use Rattle.block_adaptive.proofs.block_values.sum_of_eights.Goals as goal
use Rattle.block_adaptive.proofs.ListSums.{sum_small, sum_front, sum_next}

pub overflow_add-total : goal.overflow_add-total
overflow_add-total c = grind (arith, common_steps, sum_front, sum_next, sum_small)

pub loop-first-preserved : goal.loop-first-preserved
loop-first-preserved c = search (arith, sum_next)
