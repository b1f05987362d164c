use Rattle.std.proofs.Common.{◌≡◌, ◌<◌, ℕ, pos, length, slice_index}
use Rattle.lanes.specs.Lanes.{lane}
use Rattle.wave_inversion.proofs.collect.copy_line.Given as goal

abbrev pub invariant-loop-i : goal.invariant-loop-i
invariant-loop-i l = record {
  long : length l.offsets ≡ 64;
  copied : (i : ℕ) → i < l.i → lane l.line i ≡ pos (slice_index l.offsets i);
}
