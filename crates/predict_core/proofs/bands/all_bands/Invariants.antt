use Rattle.std.proofs.Common.{◌≡◌, ℕ, Some, vec_len}
use Rattle.std.specs.List.{slice_get}
use Rattle.predict_core.specs.Following.{PredictorState}
use Rattle.cube_core.specs.Image.{Image}
use Rattle.predict_core.specs.Walked.{IsAlong}
use Rattle.predict_core.proofs.bands.all_bands.Given as goal

abbrev pub invariant-loop-z : goal.invariant-loop-z
invariant-loop-z l = record {
  len : vec_len l.bands ≡ l.z;
  each : (z : ℕ) (b : PredictorState) → slice_get l.bands.items z ≡ Some b → (b.t ≡ 0) × ((c : Image) → IsAlong l.params c 0 z b);
}
