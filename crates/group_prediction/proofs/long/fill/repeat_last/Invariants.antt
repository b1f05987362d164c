use Rattle.std.proofs.Common.{◌≡◌, ◌-◌, ◌<◌, ℕ, min, length, slice_index_or}
use Rattle.group_prediction.specs.GroupLines.{no_long_lines}
use Rattle.group_prediction.proofs.long.fill.repeat_last.Given as goal

abbrev pub invariant-loop-i : goal.invariant-loop-i
invariant-loop-i l = record {
  done : (j : ℕ) → j < l.i → slice_index_or l.out j no_long_lines ≡ slice_index_or l.initial.out (min j (l.many - 1)) no_long_lines;
  long : length l.out ≡ 8;
}
