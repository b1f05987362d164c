use Rattle.std.proofs.Common.{◌+◌, ◌-◌, ◌^◌, ◌≤◌}
use Rattle.sample_prediction.specs.Bounds.{AllWithin}
use Rattle.predict_core.specs.RunChains.{IsFollowed}
use Rattle.predict_core.proofs.forward.pieces.follow_run.Given as goal

abbrev pub invariant-loop-at : goal.invariant-loop-at
invariant-loop-at g l = record {
  begun : l.run.first ≤ l.at;
  within : l.at ≤ l.run.count;
  followed : IsFollowed l.known.settings.now l.run.image l.run.y l.run.x l.run.first l.initial.state.weights l.at l.state.weights l.state.parts;
  bound : AllWithin (2 ^ (l.known.settings.now.predictor.omega + 2)) l.state.weights;
}

abbrev pub decreases-loop-at : goal.decreases-loop-at
decreases-loop-at g l = l.run.count - l.at
