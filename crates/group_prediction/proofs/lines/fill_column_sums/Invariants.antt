use Rattle.std.proofs.Common.{◌≡◌, ℕ, ◌+◌, ◌*◌, ◌^◌, ◌<◌, pos, length, slice_index, slice_index_or}
use Rattle.group_prediction.proofs.lines.fill_column_sums.Given as goal

abbrev pub invariant-loop-i : goal.invariant-loop-i
invariant-loop-i l = record {
  sums : (k : ℕ) → k < l.i → 4 * slice_index l.above (k + 1) < 2 ^ 15 → slice_index_or l.sums k (pos 0) ≡ pos (4 * slice_index l.above (k + 1));
  long : length l.sums ≡ 64;
}
