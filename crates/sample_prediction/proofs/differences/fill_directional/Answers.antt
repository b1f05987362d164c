use Rattle.sample_prediction.proofs.Directions.{directional_first, zeros_within}
use Rattle.sample_prediction.proofs.differences.fill_directional.Goals as goal

pub returns-then-y-eq0-clause-value : goal.returns-then-y-eq0-clause-value
returns-then-y-eq0-clause-value c = rw (directional_first c.args.predictor.now c.args.rows.now.image c.args.z c.args.y c.args.x c.if-y-eq0.true) c.requires.clear

pub returns-then-y-eq0-clause-bound : goal.returns-then-y-eq0-clause-bound
returns-then-y-eq0-clause-bound c = rw c.requires.clear (zeros_within 262144 18)

pub returns-clause-bound : goal.returns-clause-bound
returns-clause-bound c = c.put_neighbours.ensures.bound (rw c.requires.clear (zeros_within 262144 18))
