use Rattle.std.proofs.Common.{◌≡◌, ℕ, ◌<◌, pos, ◌-ℤ◌, ◌*ℤ◌, length}
use Rattle.lanes.specs.Lanes.{lane}
use Rattle.wave_inversion.proofs.place.differences.Given as goal

abbrev pub invariant-loop-b : goal.invariant-loop-b
invariant-loop-b l = record {
  long : length l.out ≡ 8;
  value : (k : ℕ) → k < l.b → lane l.out k ≡ pos 4 *ℤ lane l.offsets k -ℤ lane l.sums k;
}
