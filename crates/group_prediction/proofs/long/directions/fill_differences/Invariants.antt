use Rattle.std.proofs.Common.{◌≡◌, ℕ, ◌<◌, pos, length, slice_index, slice_index_or}
use Rattle.group_prediction.specs.GroupLines.{IsLongDifference}
use Rattle.group_prediction.proofs.long.directions.fill_differences.Given as goal

abbrev pub invariant-loop-i : goal.invariant-loop-i
invariant-loop-i l = record {
  out : (k : ℕ) → k < l.i → IsLongDifference (slice_index l.offsets k) (slice_index_or l.sums k (pos 0)) (slice_index_or l.out k (pos 0));
  long : length l.out ≡ 64;
}
