use Rattle.std.proofs.Common.{arith, rules}
use Rattle.sample_prediction.proofs.neighbourhood.sum_beside.Goals as goal

pub sum_inside-requires-clause-east_of : goal.sum_inside-requires-clause-east_of
sum_inside-requires-clause-east_of c = omega arith

pub returns-else-x-row-clause-value : goal.returns-else-x-row-clause-value
returns-else-x-row-clause-value c = search rules
