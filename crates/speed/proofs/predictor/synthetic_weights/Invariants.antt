use Rattle.std.proofs.Common.{◌≡◌}
use Rattle.speed.specs.Numbers.{state_after, synthetic_weights}
use Rattle.speed.proofs.predictor.synthetic_weights.Given as goal

abbrev pub invariant-loop-i : goal.invariant-loop-i
invariant-loop-i l = record {
  state : l.generator ≡ state_after l._i;
  value : l.weights.items ≡ synthetic_weights l._i;
}
