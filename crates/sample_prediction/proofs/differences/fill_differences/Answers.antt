use Rattle.std.proofs.Common.{[]}
use Rattle.sample_prediction.proofs.Directions.{full_filled, full_clear, reduced_filled, zeros_within}
use Rattle.sample_prediction.proofs.differences.fill_differences.Goals as goal

pub fill_spectral-requires-clause-small : goal.fill_spectral-requires-clause-small
fill_spectral-requires-clause-small g c = rw c.requires.clear (zeros_within 262144 18)

pub returns-then-predictor-clause-value : goal.returns-then-predictor-clause-value
returns-then-predictor-clause-value g c = reduced_filled _ _ _ _ _ [] _ c.if-predictor.true (rw c.requires.near_is at c.fill_spectral.ensures.value)

pub fill_spectral-requires-else-predictor-clause-clear : goal.fill_spectral-requires-else-predictor-clause-clear
fill_spectral-requires-else-predictor-clause-clear g c =
    full_clear c.args.predictor.now c.args.rows.now.image c.args.z c.args.y c.args.x c.fill_directional.new.out c.fill_directional.new.out
    c.fill_directional.ensures.value

pub returns-else-predictor-clause-value : goal.returns-else-predictor-clause-value
returns-else-predictor-clause-value g c =
    full_filled _ _ _ _ _ _ _ c.if-predictor.false c.fill_directional.ensures.value (rw c.requires.near_is at c.fill_spectral-else-predictor.ensures.value)
