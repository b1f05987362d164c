use Rattle.std.proofs.Common.{◌≡◌, ◌-◌, ◌<◌, ℕ, min, length, slice_index_or}
use Rattle.group_prediction.specs.GroupLines.{no_lines}
use Rattle.group_prediction.proofs.fill.repeat_last.Given as goal

abbrev pub invariant-loop-i : goal.invariant-loop-i
invariant-loop-i l = record {
  done : (j : ℕ) → j < l.i → slice_index_or l.out j no_lines ≡ slice_index_or l.initial.out (min j (l.many - 1)) no_lines;
  long : length l.out ≡ 8;
}
