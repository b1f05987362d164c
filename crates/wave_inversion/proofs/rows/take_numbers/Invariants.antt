use Rattle.std.proofs.Common.{◌≡◌, ◌<◌, ℕ, pos, length, slice_index}
use Rattle.lanes.specs.Lanes.{lane}
use Rattle.wave_inversion.specs.WaveRows.{without_sign}
use Rattle.wave_inversion.proofs.rows.take_numbers.Given as goal

abbrev pub invariant-loop-i : goal.invariant-loop-i
invariant-loop-i l = record {
  long : length l.line ≡ 64;
  copied : (i : ℕ) → i < l.i → without_sign (lane l.line i) ≡ pos (slice_index l.numbers i);
}
