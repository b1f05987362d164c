use Rattle.std.proofs.Common.{arith}
use Rattle.predict_core.proofs.differences.below.fill_lower.Goals as goal

pub fill_last_two-requires-clause-last : goal.fill_last_two-requires-clause-last
fill_last_two-requires-clause-last c = omega arith
