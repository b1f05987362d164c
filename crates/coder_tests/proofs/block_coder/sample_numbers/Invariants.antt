use Rattle.std.proofs.Common.{◌≡◌, length}
use Rattle.coder_tests.proofs.block_coder.sample_numbers.Given as goal

abbrev pub invariant-loop-t : goal.invariant-loop-t
invariant-loop-t l = length l.numbers.items ≡ l.t
