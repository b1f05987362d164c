use Rattle.std.proofs.Common.{ℕ, ◌≡◌, ◌+◌, ◌*◌, ◌^◌, ◌<◌, ◌≤◌, take, length}
use Rattle.cube_core.specs.Shape.{sample_count}
use Rattle.header_bits.specs.declared.params.Params.{Params}
use Rattle.sample_prediction.specs.Bounds.{AllWithin}
use Rattle.sample_prediction.specs.Chain.{AreWeightsAt}
use Rattle.sample_prediction.specs.Prediction.{weight_vector}
use Rattle.sample_prediction.specs.Residual.{run_residuals}
use Rattle.predict_core.specs.RunPlaces.{AreAlikeBeside}
use Rattle.predict_core.specs.Steps.{AreSteps}
use Rattle.sample_prediction.specs.Weights.{step_exponent}
use Rattle.predict_core.proofs.inverse.chain.invert_places.Given as goal

abbrev pub invariant-loop-i : goal.invariant-loop-i
invariant-loop-i g l = record {
  beside : AreAlikeBeside l.fn.cube l.cube l.fn.run.settings.now.band l.fn.run.y l.fn.run.x l.i;
  residuals : (p : Params) → AreWeightsAt p l.fn.run.settings.now.predictor l.fn.cube l.fn.run.settings.now.band
      (l.fn.run.y * l.fn.cube.shape.columns + l.fn.run.x) (take l.fn.run.settings.now.count l.fn.run.weights)
      → run_residuals p l.cube l.fn.run.settings.now.band (l.fn.run.y * l.cube.shape.columns + l.fn.run.x) l.i ≡ take l.i l.fn.run.deltas.now;
  weights : (p : Params) → AreWeightsAt p l.fn.run.settings.now.predictor l.fn.cube l.fn.run.settings.now.band
      (l.fn.run.y * l.fn.cube.shape.columns + l.fn.run.x) (take l.fn.run.settings.now.count l.fn.run.weights)
      → take l.fn.run.settings.now.count l.weights ≡ weight_vector p l.cube l.fn.run.settings.now.band (l.fn.run.y * l.cube.shape.columns + (l.fn.run.x + l.i));
  bound : AllWithin (2 ^ (l.fn.run.settings.now.predictor.omega + 2)) l.weights;
  steps : (k : ℕ) → l.i ≤ k → k < l.stretch.end → AreSteps l.stretch.shift l.fn.run.settings.now.range.bits
      (step_exponent l.fn.run.settings.now.predictor l.fn.run.settings.now.columns l.fn.run.settings.now.range.bits
      (l.fn.run.y * l.fn.run.settings.now.columns + (l.fn.run.x + k)));
  whole : length l.cube.samples ≡ sample_count l.cube.shape;
}
