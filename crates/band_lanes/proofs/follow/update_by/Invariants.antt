use Rattle.std.proofs.Common.{◌≡◌, ◌<◌, ◌≤◌, ℕ, int_le, length, slice_index_or, []}
use Rattle.lanes.specs.Lanes.{lane}
use Rattle.sample_prediction.specs.Weights.{updated_weights}
use Rattle.band_lanes.specs.Rows.{weights_of, components_of}
use Rattle.band_lanes.proofs.follow.update_by.Given as goal

abbrev pub invariant-loop-c : goal.invariant-loop-c
invariant-loop-c g l = record {
  updated : (b : ℕ) → b < 8 → weights_of l.c b l.weights ≡ updated_weights l.step.omega l.step.exponent
      (int_le (lane l.own b) (lane l.predicted b)) (weights_of l.c b l.initial.weights) (components_of l.c b l.pairs l.i);
  rest : (j : ℕ) → l.c ≤ j → slice_index_or l.weights j [] ≡ slice_index_or l.initial.weights j [];
  long : length l.weights ≡ 9;
}
