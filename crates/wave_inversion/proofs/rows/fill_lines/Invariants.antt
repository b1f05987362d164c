use Rattle.std.proofs.Common.{◌≡◌, ◌+◌, ◌-◌, ◌^◌, ◌<◌, ◌≤◌, ℕ, pos, ◌-ℤ◌, ◌≤ℤ◌}
use Rattle.lanes.specs.Lanes.{place}
use Rattle.predict_core.specs.Offsets.{number_at}
use Rattle.wave_inversion.specs.WaveLanes.{column_at, column_within}
use Rattle.wave_inversion.specs.WaveRows.{without_sign}
use Rattle.wave_inversion.proofs.rows.fill_lines.Given as goal

abbrev pub invariant-loop-b : goal.invariant-loop-b
invariant-loop-b l = record {
  numbers : (b i : ℕ) → b < l.b → i < 64 → l.least ≤ b → l.below ≤ l.first + b → l.first + b < l.cube.shape.bands + l.below → 7 + b ≤ l.origin + i → column_at l.origin i b ≤ l.cube.shape.columns
      → without_sign (place l.lines b i) ≡ pos (number_at l.cube (l.first + b - l.below) l.y (column_within l.cube.shape.columns (column_at l.origin i b)));
  none : (b i : ℕ) → b < l.b → i < 64 → l.least ≤ b → l.first + b < l.below → without_sign (place l.lines b i) ≡ pos 0;
  within : (b i : ℕ) → b < l.b → i < 64 → l.least ≤ b → without_sign (place l.lines b i) ≤ℤ (pos (2 ^ l.cube.kind.bits) -ℤ pos 1);
}
