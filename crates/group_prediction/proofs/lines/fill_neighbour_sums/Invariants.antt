use Rattle.std.proofs.Common.{◌≡◌, ℕ, ◌^◌, ◌<◌, pos, false, length, slice_index_or}
use Rattle.sample_prediction.specs.Lines.{line_sum}
use Rattle.group_prediction.proofs.lines.fill_neighbour_sums.Given as goal

abbrev pub invariant-loop-i : goal.invariant-loop-i
invariant-loop-i l = record {
  sums : (k : ℕ) → k < l.i → line_sum false l.current l.above k < 2 ^ 15 → slice_index_or l.sums k (pos 0) ≡ pos (line_sum false l.current l.above k);
  long : length l.sums ≡ 64;
}
