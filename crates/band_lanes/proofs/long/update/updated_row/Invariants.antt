use Rattle.std.proofs.Common.{◌≡◌, ◌*◌, ◌<◌, ℕ, int_le, length}
use Rattle.lanes.specs.Lanes.{lane}
use Rattle.sample_prediction.specs.Weights.{updated_weight}
use Rattle.band_lanes.proofs.long.update.updated_row.Given as goal

abbrev pub invariant-loop-j : goal.invariant-loop-j
invariant-loop-j g l = record {
  long : length l.row ≡ 16;
  value : (k : ℕ) → k < 4 * l.j → lane l.row k ≡ updated_weight l.step.omega l.step.exponent (int_le (lane l.own k) (lane l.predicted k))
      (lane l.weights k) (lane l.components k);
}
