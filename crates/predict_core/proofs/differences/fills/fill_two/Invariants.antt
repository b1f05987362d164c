use Rattle.std.proofs.Common.{◌≡◌, ℕ, ◌<◌, [], ◌∷◌, pos, length, slice_index_or}
use Rattle.sample_prediction.specs.Lines.{line_difference}
use Rattle.predict_core.proofs.differences.fills.fill_two.Given as goal

abbrev pub invariant-loop-i : goal.invariant-loop-i
invariant-loop-i l = record {
  done : (k : ℕ) → k < l.i → slice_index_or l.out k []
      ≡ line_difference l.column l.first.current l.first.above k ∷ line_difference l.column l.second.current l.second.above k ∷ pos 0 ∷ pos 0 ∷ [];
  long : length l.out ≡ 64;
}
