use Rattle.std.proofs.Common.{arith}
use Rattle.block_adaptive.proofs.Costs.{second_cost}
use Rattle.block_adaptive.proofs.choice.option_cost.Goals as goal

pub returns-in-Second-clause-value : goal.returns-in-Second-clause-value
returns-in-Second-clause-value c = grind (arith, second_cost)
