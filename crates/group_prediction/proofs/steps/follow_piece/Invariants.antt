use Rattle.std.proofs.Common.{◌≡◌, ◌+◌, ◌-◌, ◌^◌, ◌<◌, ◌≤◌, ℕ}
use Rattle.cube_core.specs.Image.{Image}
use Rattle.band_lanes.specs.Rows.{numbers_of, weights_of}
use Rattle.sample_prediction.specs.Bounds.{AllWithin}
use Rattle.predict_core.specs.declared.settings.Settings.{Settings}
use Rattle.group_prediction.specs.GroupLanes.{IsLane}
use Rattle.predict_core.specs.RunChains.{IsFollowed}
use Rattle.group_prediction.proofs.steps.follow_piece.Given as goal

abbrev pub invariant-loop-at : goal.invariant-loop-at
invariant-loop-at g l = record {
  begun : l.run.first ≤ l.at;
  within : l.at ≤ l.run.count;
  weights_in : (b : ℕ) → b < 8 → AllWithin (2 ^ (l.settings.predictor.omega + 2)) (weights_of g.row.Q b l.weights);
  followed : (b : ℕ) (s : Settings) (c : Image) → b < 8 → IsLane g.row.Q b s c l.run.y l.run.x l.run.count l.own l.pairs → s.predictor ≡ l.settings.predictor
      → s.range.kind ≡ l.settings.range.kind → s.columns ≡ l.settings.columns
      → IsFollowed s c l.run.y l.run.x l.run.first (weights_of g.row.Q b l.fn.weights) l.run.first (weights_of g.row.Q b l.fn.weights) (numbers_of b l.fn.parts)
      → IsFollowed s c l.run.y l.run.x l.run.first (weights_of g.row.Q b l.fn.weights) l.at (weights_of g.row.Q b l.weights) (numbers_of b l.parts);
}

abbrev pub decreases-loop-at : goal.decreases-loop-at
decreases-loop-at g l = l.run.count - l.at
