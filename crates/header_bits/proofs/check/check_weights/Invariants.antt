use Rattle.std.proofs.Common.{◌≡◌, drop}
use Rattle.header_bits.specs.Lawful.{entries_fault}
use Rattle.header_bits.proofs.check.check_weights.Given as goal

abbrev pub invariant-loop-weight : goal.invariant-loop-weight
invariant-loop-weight l = entries_fault l.bits (drop l.weight-index l.weights) ≡ entries_fault l.bits l.weights
