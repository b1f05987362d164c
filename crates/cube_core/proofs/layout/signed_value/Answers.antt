use Rattle.std.proofs.lemmas.Bool.Decides.{nat_tests}
use Rattle.std.proofs.lemmas.Int.{ints}
use Rattle.std.proofs.Common.{arith}
use Rattle.cube_core.proofs.layout.signed_value.Goals as goal

pub returns-then-number-half-clause-value : goal.returns-then-number-half-clause-value
returns-then-number-half-clause-value c = grind (arith, ints, nat_tests)

pub returns-else-signed-clause-value : goal.returns-else-signed-clause-value
returns-else-signed-clause-value c = grind (arith, ints, nat_tests)
