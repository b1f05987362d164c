use Rattle.std.proofs.Common.{◌≡◌, ◌<◌, ℕ, length, slice_get, slice_index_or, Some}
use Rattle.predict_core.specs.Following.{PredictorState}
use Rattle.group_prediction.specs.GroupLines.{AreBandsLines, no_lines}
use Rattle.group_prediction.proofs.fill.fill_lanes.Given as goal

abbrev pub invariant-loop-i : goal.invariant-loop-i
invariant-loop-i l = record {
  done : (j : ℕ) (b : PredictorState) → j < l.i → slice_get l.bands j ≡ Some b
      → AreBandsLines l.n b.predictor b.band l.run (slice_index_or l.out j no_lines);
  long : length l.out ≡ 8;
}
