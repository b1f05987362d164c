use Rattle.std.proofs.Common.{◌≡◌, ◌+◌, ◌^◌, take, map, length}
use Rattle.sample_prediction.specs.Weights.{table_weight}
use Rattle.sample_prediction.specs.Bounds.{AllWithin}
use Rattle.sample_prediction.proofs.start.table_start.Given as goal

abbrev pub invariant-loop-i : goal.invariant-loop-i
invariant-loop-i l = record {
  told : take l.i l.weights ≡ map (table_weight l.omega l.q) (take l.i l.entries);
  long : length l.weights ≡ 18;
  bounded : AllWithin (2 ^ (l.omega + 2)) l.weights;
}
