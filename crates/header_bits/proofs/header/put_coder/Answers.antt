use Rattle.std.proofs.Common.{arith}
use Rattle.header_bits.proofs.Held.{flag_byte, sample_total, block_total}
use Rattle.header_bits.proofs.header.put_coder.Goals as goal

pub returns-in-Sample-clause-within : goal.returns-in-Sample-clause-within
returns-in-Sample-clause-within c = λ h. c.write_values.ensures.within (omega (arith, h, sample_total))

pub returns-in-Sample-clause-room : goal.returns-in-Sample-clause-room
returns-in-Sample-clause-room c = rw sample_total at c.write_values.ensures.room

pub returns-in-Block-clause-within : goal.returns-in-Block-clause-within
returns-in-Block-clause-within c = λ h. c.write_values-in-Block.ensures.within (omega (arith, h, block_total))

pub returns-in-Sample-clause-still : goal.returns-in-Sample-clause-still
returns-in-Sample-clause-still c = rw sample_total at c.write_values.ensures.still

pub returns-in-Block-clause-still : goal.returns-in-Block-clause-still
returns-in-Block-clause-still c = rw block_total at c.write_values-in-Block.ensures.still

pub returns-in-Block-clause-room : goal.returns-in-Block-clause-room
returns-in-Block-clause-room c = rw block_total at c.write_values-in-Block.ensures.room

pub write_values-requires-in-Block-clause-values : goal.write_values-requires-in-Block-clause-values
write_values-requires-in-Block-clause-values c =
    rw (c.size_code.ensures, c.from-in-Block.ensures, flag_byte c.in-Block.restricted) (rw c.in-Block.is at c.requires)

pub returns-in-Block-clause-bits : goal.returns-in-Block-clause-bits
returns-in-Block-clause-bits c =
    rw c.in-Block.is (rw (c.size_code.ensures, c.from-in-Block.ensures, flag_byte c.in-Block.restricted) at c.write_values-in-Block.ensures.bits)
