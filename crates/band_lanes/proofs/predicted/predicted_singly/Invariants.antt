use Rattle.std.proofs.Common.{◌<◌, ℕ, map, to_z, w32}
use Rattle.lanes.specs.Lanes.{lane}
use Rattle.sample_prediction.specs.Prediction.{inner_product}
use Rattle.band_lanes.specs.Rows.{weights_of, components_of}
use Rattle.band_lanes.specs.Sums.{IsSplit}
use Rattle.band_lanes.proofs.predicted.predicted_singly.Given as goal

abbrev pub invariant-loop-k : goal.invariant-loop-k
invariant-loop-k g l = (b : ℕ) → b < 8 → IsSplit l.omega l.k (inner_product (weights_of l.k b l.weights) (components_of l.k b l.pairs l.i))
    (lane (map (to_z w32) l.high) b) (lane (map (to_z w32) l.low) b)
