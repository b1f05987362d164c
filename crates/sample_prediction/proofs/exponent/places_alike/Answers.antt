use Rattle.std.proofs.Common.{arith}
use Rattle.sample_prediction.proofs.Intervals.{alike_in_first_row, alike_later}
use Rattle.sample_prediction.proofs.exponent.places_alike.Goals as goal

pub returns-then-t-width-clause-alike : goal.returns-then-t-width-clause-alike
returns-then-t-width-clause-alike c bits k l = alike_in_first_row _ _ bits _ k c.requires.lawful.order (omega (arith, l))

pub returns-else-t-width-clause-alike : goal.returns-else-t-width-clause-alike
returns-else-t-width-clause-alike c bits k l = alike_later c.args.predictor.now c.args.columns bits c.args.t k (omega arith) (c.alike_after.ensures.alike k l)
