use Rattle.std.proofs.Common.{◌≡◌, ◌+◌, ◌<◌, ℕ, pos, length, slice_index}
use Rattle.lanes.specs.Lanes.{lane}
use Rattle.wave_inversion.specs.WaveRows.{without_sign}
use Rattle.wave_inversion.proofs.rows.eight_at.Given as goal

abbrev pub invariant-loop-j : goal.invariant-loop-j
invariant-loop-j l = record {
  long : length l.numbers ≡ 8;
  numbers : (i : ℕ) → i < l.j → without_sign (lane l.numbers i) ≡ pos (slice_index l.row (l.from + i));
}
