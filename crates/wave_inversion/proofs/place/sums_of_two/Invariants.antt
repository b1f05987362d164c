use Rattle.std.proofs.Common.{◌≡◌, ℕ, ◌<◌, ◌+ℤ◌, length}
use Rattle.lanes.specs.Lanes.{lane}
use Rattle.wave_inversion.proofs.place.sums_of_two.Given as goal

abbrev pub invariant-loop-k : goal.invariant-loop-k
invariant-loop-k l = record {
  long : length l.sums ≡ 8;
  value : (k : ℕ) → k < l.k → lane l.sums k ≡ lane l.a k +ℤ lane l.b k;
}
