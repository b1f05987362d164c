use Rattle.std.proofs.Common.{◌≡◌, ℕ, ◌<◌, pos, [], ◌∷◌, ◌++◌, length, slice_index_or}
use Rattle.sample_prediction.specs.Lines.{line_sum, line_difference, line_directions}
use Rattle.predict_core.proofs.differences.fills.fill_directions.Given as goal

abbrev pub invariant-loop-i : goal.invariant-loop-i
invariant-loop-i l = record {
  sums : (k : ℕ) → k < l.i → slice_index_or l.sums k (pos 0) ≡ pos (line_sum l.column l.lines.current l.lines.above k);
  own : (k : ℕ) → k < l.i → slice_index_or l.own k (pos 0) ≡ line_difference l.column l.lines.current l.lines.above k;
  done : (k : ℕ) → k < l.i
      → slice_index_or l.out k [] ≡ line_directions l.column l.lines.current l.lines.above k ++ line_difference l.column l.below.current l.below.above k ∷ [];
  sums_long : length l.sums ≡ 64;
  own_long : length l.own ≡ 64;
  long : length l.out ≡ 64;
}
