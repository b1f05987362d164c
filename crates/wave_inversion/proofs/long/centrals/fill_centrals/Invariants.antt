use Rattle.std.proofs.Common.{◌≡◌, ◌+◌, ◌^◌, ◌<◌, ◌≤◌, ℕ, pos, ◌-ℤ◌, ◌*ℤ◌, length}
use Rattle.lanes.specs.Lanes.{place}
use Rattle.wave_inversion.specs.Wave.{AreRowsBelow, sum_at}
use Rattle.wave_inversion.proofs.long.centrals.fill_centrals.Given as goal

abbrev pub invariant-loop-i : goal.invariant-loop-i
invariant-loop-i l = record {
  long : length l.out ≡ 64;
  values : (i b : ℕ) → 1 ≤ i → i < l.i → b < 8 → place l.out i b ≡ pos 4 *ℤ place l.numbers i b -ℤ sum_at l.form.column l.numbers l.above i b;
  below : AreRowsBelow (2 ^ (l.form.step.bits + 2)) l.out;
}
