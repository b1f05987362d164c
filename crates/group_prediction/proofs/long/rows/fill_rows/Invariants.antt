use Rattle.std.proofs.Common.{◌≡◌, ◌+◌, ◌<◌, ℕ, slice_index_or, length}
use Rattle.lanes.specs.Lanes.{place}
use Rattle.group_prediction.specs.GroupLines.{no_long_lines}
use Rattle.band_lanes.specs.Fours.{no_rows}
use Rattle.group_prediction.proofs.long.rows.fill_rows.Given as goal

abbrev pub invariant-loop-k : goal.invariant-loop-k
invariant-loop-k g l = record {
  done : (k i b : ℕ) → k < l.k → i < 64 → b < 4 → place (slice_index_or l.rows k no_rows).places i b ≡ place (slice_index_or l.bands (l.from + b) no_long_lines).components k i;
  long : length l.rows ≡ 18;
}
