use Rattle.std.proofs.Common.{◌≡◌, ◌+◌, ◌*◌, ◌<◌, ℕ, slice_index_or, length}
use Rattle.lanes.specs.Lanes.{lane, place}
use Rattle.band_lanes.specs.Rows.{row_at, no_pairs}
use Rattle.group_prediction.specs.GroupLines.{no_lines}
use Rattle.group_prediction.proofs.pairs.fill_pairs.Given as goal

abbrev pub invariant-loop-j : goal.invariant-loop-j
invariant-loop-j g l = record {
  even : (j i b : ℕ) → j < l.j → i < 64 → b < 8 → lane (row_at (slice_index_or l.pairs j no_pairs) i) (2 * b)
      ≡ place (slice_index_or l.bands b no_lines).components (2 * j) i;
  odd : (j i b : ℕ) → j < l.j → i < 64 → b < 8 → lane (row_at (slice_index_or l.pairs j no_pairs) i) (2 * b + 1)
      ≡ place (slice_index_or l.bands b no_lines).components (2 * j + 1) i;
  long : length l.pairs ≡ 9;
}
