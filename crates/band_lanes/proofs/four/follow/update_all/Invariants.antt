use Rattle.std.proofs.Common.{◌≡◌, ◌<◌, ◌≤◌, ℕ, int_le, length, slice_index_or, [], map, to_z, w32}
use Rattle.lanes.specs.Lanes.{lane}
use Rattle.sample_prediction.specs.Weights.{updated_weights}
use Rattle.band_lanes.specs.Fours.{column_of, row_components}
use Rattle.band_lanes.proofs.four.follow.update_all.Given as goal

abbrev pub invariant-loop-c : goal.invariant-loop-c
invariant-loop-c g l = record {
  updated : (b : ℕ) → b < 4 → column_of l.c b l.weights ≡ updated_weights l.step.omega l.step.exponent
      (int_le (lane (map (to_z w32) l.own) b) (lane (map (to_z w32) l.predicted) b)) (column_of l.c b l.initial.weights) (row_components l.c b l.rows l.i);
  rest : (j : ℕ) → l.c ≤ j → slice_index_or l.weights j [] ≡ slice_index_or l.initial.weights j [];
  long : length l.weights ≡ 18;
}
