use Rattle.std.proofs.Common.{◌≡◌, ◌+◌, ◌-◌, ◌*◌, ◌^◌, ◌≤◌, ◌++◌, take, drop, pos, length, replicate, unsigned_abs}
use Rattle.sample_prediction.specs.Weights.{eighths}
use Rattle.sample_prediction.specs.Bounds.{AllWithin}
use Rattle.sample_prediction.proofs.start.default_weights.Given as goal

abbrev pub invariant-loop-i : goal.invariant-loop-i
invariant-loop-i l = record {
  begun : take (l.first + l.i) l.weights ++ eighths l.weight (l.count - l.i) ≡ replicate l.first (pos 0) ++ eighths (pos (7 * 2 ^ (l.omega - 3))) l.count;
  rest : drop (l.first + l.i) l.weights ≡ drop (l.first + l.i) (replicate 18 (pos 0));
  long : length l.weights ≡ 18;
  small : unsigned_abs l.weight ≤ 2 ^ 20;
  least : unsigned_abs l.weight ≤ 2 ^ (l.omega + 2);
  bounded : AllWithin (2 ^ (l.omega + 2)) l.weights;
}
