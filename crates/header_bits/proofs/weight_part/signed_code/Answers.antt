use Rattle.std.proofs.lemmas.Grind.{common_steps}
use Rattle.std.proofs.Common.{arith}
use Rattle.header_bits.proofs.weight_part.signed_code.Goals as goal

pub returns-then-weight-lt0-clause-code : goal.returns-then-weight-lt0-clause-code
returns-then-weight-lt0-clause-code c = grind (arith, common_steps)

pub returns-then-weight-lt0-clause-below : goal.returns-then-weight-lt0-clause-below
returns-then-weight-lt0-clause-below c = grind (arith, common_steps)

pub overflow_cast-result : goal.overflow_cast-result
overflow_cast-result c = grind (arith, common_steps)
