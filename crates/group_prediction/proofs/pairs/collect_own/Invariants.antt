use Rattle.std.proofs.Common.{◌≡◌, ◌<◌, ℕ, pos, slice_index_or, length}
use Rattle.lanes.specs.Lanes.{place}
use Rattle.group_prediction.specs.GroupLines.{no_lines}
use Rattle.group_prediction.proofs.pairs.collect_own.Given as goal

abbrev pub invariant-loop-b : goal.invariant-loop-b
invariant-loop-b l = record {
  done : (b i : ℕ) → b < l.b → place l.lines b i ≡ slice_index_or (slice_index_or l.bands b no_lines).own i (pos 0);
  long : length l.lines ≡ 8;
}
