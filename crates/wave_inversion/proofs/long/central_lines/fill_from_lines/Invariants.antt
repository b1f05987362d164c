use Rattle.std.proofs.Common.{◌≡◌, ◌+◌, ◌^◌, ◌<◌, ◌≤◌, ℕ, pos, unsigned_abs}
use Rattle.lanes.specs.Lanes.{place}
use Rattle.wave_inversion.specs.Wave.{line_of}
use Rattle.wave_inversion.specs.WaveRows.{central_along}
use Rattle.wave_inversion.proofs.long.central_lines.fill_from_lines.Given as goal

abbrev pub invariant-loop-b : goal.invariant-loop-b
invariant-loop-b l = record {
  values : (b i : ℕ) → b < l.b → l.least ≤ b → 1 ≤ i → i < 63 → place l.rows i b ≡ central_along l.form.column (line_of l.numbers b) (line_of l.above b) i;
  none : (b i : ℕ) → b < 8 → i < 64 → b < l.least → place l.rows i b ≡ pos 0;
  below : (i b : ℕ) → i < 64 → b < 8 → unsigned_abs (place l.rows i b) < 2 ^ (l.form.step.bits + 2);
}
