use Rattle.std.proofs.Common.{refl}
use Rattle.std.proofs.lemmas.Bool.{eq-eqb}
use Rattle.coder_pipe.proofs.plan.test_length.Goals as goal

pub returns-then-deal-bands : goal.returns-then-deal-bands
returns-then-deal-bands c = rw (eq-eqb _ _ c.if-deal-bands.true) refl
