use Rattle.std.proofs.Common.{rules}
use Rattle.sample_prediction.proofs.neighbourhood.central_of.Goals as goal

pub returns-clause-value : goal.returns-clause-value
returns-clause-value c = search rules
