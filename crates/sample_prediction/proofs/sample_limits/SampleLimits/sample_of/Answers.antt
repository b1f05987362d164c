use Rattle.std.proofs.Common.{arith, rules}
use Rattle.std.proofs.lemmas.Grind.{common_steps}
use Rattle.sample_prediction.proofs.sample_limits.SampleLimits.sample_of.Goals as goal

pub unmap_between-requires-clause-delta_in : goal.unmap_between-requires-clause-delta_in
unmap_between-requires-clause-delta_in c = grind (arith, common_steps)

pub returns-clause-inverse : goal.returns-clause-inverse
returns-clause-inverse c = search rules
