use Rattle.std.proofs.Common.{◌≡◌, length}
use Rattle.predict_core.proofs.Walking.{IsOnWalk}
use Rattle.speed.proofs.Walk.{AreResiduals}
use Rattle.speed.proofs.predictor.inverse.Given as goal

abbrev pub invariant-loop-place : goal.invariant-loop-place
invariant-loop-place l = record {
  shape : l.cube.shape ≡ l.params.shape;
  kind : l.cube.kind ≡ l.params.kind;
  walk : IsOnWalk l.params l.cube l.places l.bands.items;
  read : AreResiduals l.params l.cube l.places l.i l.residuals;
}

abbrev pub decreases-loop-place : goal.decreases-loop-place
decreases-loop-place l = length l.places
