use Rattle.std.proofs.Common.{◌≡◌, ◌+◌, ◌*◌, ◌^◌, ◌<◌, ◌≤◌, ℕ, ℤ, List, unsigned_abs, length}
use Rattle.cube_core.specs.Image.{Image}
use Rattle.lanes.specs.Lanes.{place}
use Rattle.band_lanes.specs.Rows.{numbers_of}
use Rattle.band_lanes.specs.Fours.{column_of}
use Rattle.sample_prediction.specs.Bounds.{AllWithin}
use Rattle.predict_core.specs.declared.settings.Settings.{Settings}
use Rattle.group_prediction.specs.GroupLanes.{IsLongLane}
use Rattle.predict_core.specs.RunChains.{AreStepsThere, IsFollowed}
use Rattle.group_prediction.proofs.long.chain.follow_places.Given as goal

abbrev pub invariant-loop-i : goal.invariant-loop-i
invariant-loop-i g l = record {
  weights_in : (b : ℕ) → b < 4 → AllWithin (2 ^ (l.step.omega + 2)) (column_of (2 * g.row.Q) b l.working);
  weights_long : length l.working ≡ 18;
  long : length l.parts ≡ 64;
  small : (start : ℕ) → ((i b : ℕ) → start ≤ i → i < l.first → b < 4 → unsigned_abs (place l.fn.parts i b) ≤ 18 * 2 ^ 20)
      → (i b : ℕ) → start ≤ i → i < l.i → b < 4 → unsigned_abs (place l.parts i b) ≤ 18 * 2 ^ 20;
  followed : (b : ℕ) (s : Settings) (c : Image) (y x start : ℕ) (begun : List ℤ) → b < 4 → IsLongLane g.row.Q b s c y x l.last l.own l.rows
      → 0 < y + (x + l.first) → ((i : ℕ) → l.first ≤ i → i < l.last → AreStepsThere s c l.step.omega l.step.bits l.step.exponent y (x + i))
      → IsFollowed s c y x start begun l.first (column_of (2 * g.row.Q) b l.fn.weights) (numbers_of b l.fn.parts)
      → IsFollowed s c y x start begun l.i (column_of (2 * g.row.Q) b l.working) (numbers_of b l.parts);
}
