use Rattle.std.proofs.Common.{◌≡◌, ◌*◌}
use Rattle.speed.specs.Numbers.{state_after, synthetic_residuals}
use Rattle.speed.proofs.synthetic.residuals.Given as goal

abbrev pub invariant-loop-i : goal.invariant-loop-i
invariant-loop-i l = record {
  state : l.generator ≡ state_after (2 * l.i);
  value : l.residuals.items ≡ synthetic_residuals l.i;
}
