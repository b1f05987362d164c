use Rattle.std.proofs.Common.{◌≡◌, ℕ, ◌<◌, pos, ◌+ℤ◌, ◌*ℤ◌, ◌≤ℤ◌, unsigned_abs, length}
use Rattle.lanes.specs.Lanes.{lane}
use Rattle.sample_prediction.specs.Arithmetic.{floor_div, clip}
use Rattle.sample_prediction.specs.Mapping.{unmapped_between}
use Rattle.wave_inversion.proofs.long.unmapping.unmapped.Given as goal

abbrev pub invariant-loop-b : goal.invariant-loop-b
invariant-loop-b l = record {
  long : length l.offsets ≡ 8;
  value : (k : ℕ) → k < l.b → lane l.offsets k ≡ unmapped_between (pos 0) l.greatest
      (clip (floor_div (lane l.parts k +ℤ lane l.sums k) 2 +ℤ pos 1) (pos 0) (pos 2 *ℤ l.greatest +ℤ pos 1)) (unsigned_abs (lane l.residuals k));
  range : (k : ℕ) → k < l.b → (pos 0 ≤ℤ lane l.offsets k) × (lane l.offsets k ≤ℤ l.greatest);
}
