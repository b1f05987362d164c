use Rattle.std.proofs.Common.{◌≡◌, ◌*◌, ◌^◌, ◌≤◌, unsigned_abs, take}
use Rattle.sample_prediction.specs.Prediction.{inner_product}
use Rattle.sample_prediction.proofs.weights.product_of_first.Given as goal

abbrev pub invariant-loop-i : goal.invariant-loop-i
invariant-loop-i g l = record {
  begun : l.sum ≡ inner_product (take l.i l.weights) (take l.i l.differences);
  bound : unsigned_abs l.sum ≤ l.i * 2 ^ 39;
}
