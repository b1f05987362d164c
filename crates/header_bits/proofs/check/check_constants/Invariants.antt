use Rattle.std.proofs.Common.{◌≡◌, drop}
use Rattle.header_bits.specs.TableParts.{some_above}
use Rattle.header_bits.proofs.check.check_constants.Given as goal

abbrev pub invariant-loop-constant : goal.invariant-loop-constant
invariant-loop-constant l = some_above l.most (drop l.constant-index l.constants) ≡ some_above l.most l.constants
