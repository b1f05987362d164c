use Rattle.std.proofs.lemmas.Grind.{common_steps}
use Rattle.std.proofs.Common.{arith}
use Rattle.header_bits.proofs.Windows.{left_length}
use Rattle.header_bits.proofs.bit_reader.BitReader.skip.Goals as goal

pub overflow_add-self : goal.overflow_add-self
overflow_add-self c = omega (arith, left_length _ _ _ c.self.invariant.0 c.self.view_is, c.requires, c.self.invariant.1)

pub invariant_of-self : goal.invariant_of-self
invariant_of-self c = (omega (arith, left_length _ _ _ c.self.invariant.0 c.self.view_is, c.requires), c.self.invariant.1)

pub returns-clause-left : goal.returns-clause-left
returns-clause-left c = grind (arith, common_steps)
