use Rattle.std.proofs.Common.{rules}
use Rattle.sample_prediction.proofs.differences.west_of.Goals as goal

pub returns-then-x-eq0 : goal.returns-then-x-eq0
returns-then-x-eq0 c = search rules
