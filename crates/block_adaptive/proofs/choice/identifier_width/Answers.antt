use Rattle.std.proofs.Common.{arith}
use Rattle.block_adaptive.proofs.choice.identifier_width.Goals as goal

pub returns-then-set-le2-clause-value : goal.returns-then-set-le2-clause-value
returns-then-set-le2-clause-value c = grind arith
