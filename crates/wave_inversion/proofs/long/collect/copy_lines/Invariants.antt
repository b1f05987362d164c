use Rattle.std.proofs.Common.{◌≡◌, ◌<◌, ℕ, pos, length}
use Rattle.lanes.specs.Lanes.{place}
use Rattle.wave_inversion.specs.WaveRows.{without_sign}
use Rattle.wave_inversion.specs.WaveTiles.{offset_in}
use Rattle.wave_inversion.proofs.long.collect.copy_lines.Given as goal

abbrev pub invariant-loop-b : goal.invariant-loop-b
invariant-loop-b l = record {
  long : length l.offsets ≡ 8;
  copied : (b i : ℕ) → b < l.b → i < 64 → without_sign (place l.lines b i) ≡ pos (offset_in l.offsets b i);
}
