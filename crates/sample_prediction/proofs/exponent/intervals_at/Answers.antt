use Rattle.std.proofs.Common.{rules}
use Rattle.sample_prediction.proofs.exponent.intervals_at.Goals as goal

pub returns-clause-value : goal.returns-clause-value
returns-clause-value c = search rules
