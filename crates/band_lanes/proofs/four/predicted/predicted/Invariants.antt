use Rattle.std.proofs.Common.{◌≡◌, ◌<◌, ℕ, map, to_z, w64}
use Rattle.lanes.specs.Lanes.{lane}
use Rattle.sample_prediction.specs.Prediction.{inner_product}
use Rattle.band_lanes.specs.Fours.{column_of, row_components}
use Rattle.band_lanes.proofs.four.predicted.predicted.Given as goal

abbrev pub invariant-loop-c : goal.invariant-loop-c
invariant-loop-c g l = (b : ℕ) → b < 4 → lane (map (to_z w64) l.sums) b ≡ inner_product (column_of l.c b l.weights) (row_components l.c b l.rows l.i)
