use Rattle.std.proofs.Common.{◌≡◌, ◌+◌, ◌-◌}
use Rattle.header_bits.specs.Parts.{reserved_test}
use Rattle.header_bits.proofs.refusal.check_reserved.Given as goal

abbrev pub invariant-loop-i : goal.invariant-loop-i
invariant-loop-i l = reserved_test (l.at + l.i) (l.n - l.i) l.value ≡ reserved_test l.at l.n l.value
