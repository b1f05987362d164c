use Rattle.std.proofs.Common.{int_lt, pos, ◌≡◌, ◌+◌, ◌^◌, take, drop, length}
use Rattle.sample_prediction.specs.Weights.{updated_weights}
use Rattle.sample_prediction.specs.Bounds.{AllWithin}
use Rattle.sample_prediction.proofs.weights.update_by.Given as goal

abbrev pub invariant-loop-i : goal.invariant-loop-i
invariant-loop-i g l = record {
  done : take l.i l.weights ≡ updated_weights l.fn.omega l.fn.shift.exponent (int_lt l.fn.sign_mask (pos 0)) (take l.i l.fn.weights) (take l.i l.fn.differences);
  kept : drop l.i l.weights ≡ drop l.i l.fn.weights;
  bound : AllWithin (2 ^ (l.fn.omega + 2)) l.weights;
  long : length l.weights ≡ 18;
}
