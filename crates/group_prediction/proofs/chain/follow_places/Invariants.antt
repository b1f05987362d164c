use Rattle.std.proofs.Common.{◌≡◌, ◌+◌, ◌^◌, ◌<◌, ◌≤◌, ℕ, ℤ, List, length}
use Rattle.cube_core.specs.Image.{Image}
use Rattle.band_lanes.specs.Rows.{numbers_of, weights_of}
use Rattle.sample_prediction.specs.Bounds.{AllWithin}
use Rattle.predict_core.specs.declared.settings.Settings.{Settings}
use Rattle.group_prediction.specs.GroupLanes.{IsLane}
use Rattle.predict_core.specs.RunChains.{AreStepsThere, IsFollowed}
use Rattle.group_prediction.proofs.chain.follow_places.Given as goal

abbrev pub invariant-loop-i : goal.invariant-loop-i
invariant-loop-i g l = record {
  weights_in : (b : ℕ) → b < 8 → AllWithin (2 ^ (l.step.omega + 2)) (weights_of g.row.Q b l.working);
  weights_long : length l.working ≡ 9;
  long : length l.parts ≡ 64;
  followed : (b : ℕ) (s : Settings) (c : Image) (y x start : ℕ) (begun : List ℤ) → b < 8 → IsLane g.row.Q b s c y x l.last l.own l.pairs
      → 0 < y + (x + l.first) → ((i : ℕ) → l.first ≤ i → i < l.last → AreStepsThere s c l.step.omega l.step.bits l.step.exponent y (x + i))
      → IsFollowed s c y x start begun l.first (weights_of g.row.Q b l.fn.weights) (numbers_of b l.fn.parts)
      → IsFollowed s c y x start begun l.i (weights_of g.row.Q b l.working) (numbers_of b l.parts);
}
