use Rattle.std.proofs.Common.{◌≡◌, ◌<◌, ◌≤◌, ℕ}
use Rattle.lanes.specs.Lanes.{place}
use Rattle.wave_inversion.specs.WaveRows.{without_sign}
use Rattle.wave_inversion.proofs.rows.fill_narrow_lines.Given as goal

abbrev pub invariant-loop-b : goal.invariant-loop-b
invariant-loop-b l = record {
  signed : (b i : ℕ) → l.least ≤ b → b < l.b → i < 64 → without_sign (place l.lines b i) ≡ place l.lines b i;
}
