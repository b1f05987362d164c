use Rattle.std.proofs.Common.{◌≡◌, ◌+◌, ◌<◌, ◌≤◌, ℕ, pos, length, slice_index}
use Rattle.lanes.specs.Lanes.{lane}
use Rattle.wave_inversion.specs.WaveRows.{without_sign}
use Rattle.wave_inversion.proofs.rows.put_few.Given as goal

abbrev pub invariant-loop-i : goal.invariant-loop-i
invariant-loop-i l = record {
  long : length l.line ≡ 64;
  numbers : (i : ℕ) → i < l.i → without_sign (lane l.line (l.first + i)) ≡ pos (slice_index l.row (l.from + i));
  others : (i : ℕ) → (l.first ≤ i → l.first + l.i ≤ i) → lane l.line i ≡ lane l.initial.line i;
}
