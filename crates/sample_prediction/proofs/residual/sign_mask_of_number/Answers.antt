use Rattle.std.proofs.Common.{arith}
use Rattle.std.proofs.lemmas.Grind.{common_steps}
use Rattle.sample_prediction.proofs.residual.sign_mask_of_number.Goals as goal

pub returns-else-theta-number-clause-value : goal.returns-else-theta-number-clause-value
returns-else-theta-number-clause-value c = grind (arith, common_steps)
