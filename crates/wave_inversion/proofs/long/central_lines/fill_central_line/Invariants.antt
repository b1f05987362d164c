use Rattle.std.proofs.Common.{◌≡◌, ◌<◌, ◌≤◌, ℕ, pos, length}
use Rattle.lanes.specs.Lanes.{lane}
use Rattle.wave_inversion.specs.WaveRows.{central_along}
use Rattle.wave_inversion.proofs.long.central_lines.fill_central_line.Given as goal

abbrev pub invariant-loop-i : goal.invariant-loop-i
invariant-loop-i l = record {
  long : length l.out ≡ 64;
  first : lane l.out 0 ≡ pos 0;
  last : lane l.out 63 ≡ pos 0;
  values : (i : ℕ) → 1 ≤ i → i < l.i → lane l.out i ≡ central_along l.form.column l.numbers l.above i;
}
