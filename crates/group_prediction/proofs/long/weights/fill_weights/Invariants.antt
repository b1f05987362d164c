use Rattle.std.proofs.Common.{◌≡◌, ◌-◌, ◌<◌, ℕ, min, length, slice_get, Some}
use Rattle.predict_core.specs.Following.{PredictorState}
use Rattle.group_prediction.specs.GroupLanes.{HasLongWeights}
use Rattle.group_prediction.proofs.long.weights.fill_weights.Given as goal

abbrev pub invariant-loop-b : goal.invariant-loop-b
invariant-loop-b g l = (k : ℕ) (s : PredictorState) → k < l.b → slice_get l.bands (min k (length l.bands - 1)) ≡ Some s → HasLongWeights g.row.Q k s l.rows
