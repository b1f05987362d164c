use Rattle.std.proofs.Common.{arith}
use Rattle.std.proofs.lemmas.Grind.{common_steps}
use Rattle.block_adaptive.proofs.Powers.{four_shifts}
use Rattle.block_adaptive.proofs.lows.join_lows.Goals as goal

pub joined-requires-clause-within : goal.joined-requires-clause-within
joined-requires-clause-within c = grind (arith, common_steps)

pub joined-requires-2-clause-within : goal.joined-requires-2-clause-within
joined-requires-2-clause-within c = grind (arith, common_steps)

pub joined-requires-3-clause-within : goal.joined-requires-3-clause-within
joined-requires-3-clause-within c = grind (arith, common_steps)

pub joined-requires-4-clause-within : goal.joined-requires-4-clause-within
joined-requires-4-clause-within c = grind (arith, common_steps)

pub returns : goal.returns
returns c = grind (arith, four_shifts)
