use Rattle.std.proofs.Common.{◌≡◌, ◌+◌, ◌*◌, ◌<◌, ℕ, map, to_z, w64}
use Rattle.lanes.specs.Lanes.{lane}
use Rattle.sample_prediction.specs.Prediction.{inner_product}
use Rattle.band_lanes.specs.Rows.{weights_of, pairs_of}
use Rattle.band_lanes.proofs.long.predict.sums_of.Given as goal

abbrev pub invariant-loop-c : goal.invariant-loop-c
invariant-loop-c g l = (k : ℕ) → k < 2 → lane (map (to_z w64) l.sums) k
    ≡ inner_product (weights_of l.c (2 * l.j + k) l.weights) (pairs_of l.c (2 * l.j + k) l.components)
