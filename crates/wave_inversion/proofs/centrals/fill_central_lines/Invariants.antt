use Rattle.std.proofs.Common.{◌≡◌, ◌+◌, ◌^◌, ◌<◌, ◌≤◌, ℕ, pos, ◌-ℤ◌, ◌*ℤ◌, unsigned_abs, length}
use Rattle.lanes.specs.Lanes.{place}
use Rattle.wave_inversion.specs.Wave.{line_of, sum_along}
use Rattle.wave_inversion.proofs.centrals.fill_central_lines.Given as goal

abbrev pub invariant-loop-b : goal.invariant-loop-b
invariant-loop-b l = record {
  long : length l.out ≡ 8;
  values : (b i : ℕ) → b < l.b → l.least ≤ b → 1 ≤ i → i < 63
      → place l.out b i ≡ pos 4 *ℤ place l.numbers b i -ℤ sum_along l.form.column (line_of l.numbers b) (line_of l.above b) i;
  none : (b i : ℕ) → b < l.b → i < 64 → b < l.least → place l.out b i ≡ pos 0;
  below : (b i : ℕ) → b < l.b → i < 64 → unsigned_abs (place l.out b i) < 2 ^ (l.form.step.bits + 2);
}
