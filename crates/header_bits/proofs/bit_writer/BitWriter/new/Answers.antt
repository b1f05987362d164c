use Rattle.std.proofs.Common.{arith, refl}
use Rattle.header_bits.specs.Bits.{bits_of, bits_of_bytes}
use Rattle.header_bits.proofs.bit_writer.BitWriter.new.Goals as goal

pub returns-clause-bits : goal.returns-clause-bits
unfolding bits_of bits_of_bytes
returns-clause-bits c = rw c.new.ensures.items refl

pub invariant_of-result : goal.invariant_of-result
invariant_of-result c = omega arith
