use Rattle.std.proofs.Common.{◌≡◌, ℕ, ◌*◌, ◌^◌, ◌<◌, pos, ◌-ℤ◌, ◌≤ℤ◌, unsigned_abs, length, slice_index, slice_index_or}
use Rattle.group_prediction.proofs.lines.fill_differences.Given as goal

abbrev pub invariant-loop-i : goal.invariant-loop-i
invariant-loop-i l = record {
  out : (k : ℕ) → k < l.i → pos 0 ≤ℤ slice_index_or l.sums k (pos 0)
      → unsigned_abs (pos (4 * slice_index l.offsets k) -ℤ slice_index_or l.sums k (pos 0)) < 2 ^ 15
      → slice_index_or l.out k (pos 0) ≡ pos (4 * slice_index l.offsets k) -ℤ slice_index_or l.sums k (pos 0);
  long : length l.out ≡ 64;
}
