use Rattle.std.proofs.Common.{refl, arith}
use Rattle.sample_adaptive.proofs.code_word.escaped.Goals as goal

pub returns-else-residual-code-clause-needed : goal.returns-else-residual-code-clause-needed
returns-else-residual-code-clause-needed c = (λ h. omega arith, λ h. refl)
