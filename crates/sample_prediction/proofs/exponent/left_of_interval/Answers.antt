use Rattle.std.proofs.Common.{arith, rules}
use Rattle.sample_prediction.proofs.Intervals.{interval_end}
use Rattle.sample_prediction.proofs.exponent.left_of_interval.Goals as goal

pub overflow_sub-result : goal.overflow_sub-result
overflow_sub-result c = let e = interval_end _ _ _ c.requires.interval_in c.requires.t_in c.requires.intervals_are in omega (arith, e)

pub returns-clause-some : goal.returns-clause-some
returns-clause-some c = let e = interval_end _ _ _ c.requires.interval_in c.requires.t_in c.requires.intervals_are in omega (arith, e)

pub returns-clause-alike : goal.returns-clause-alike
returns-clause-alike c = search rules
