use Rattle.std.proofs.Common.{arith}
use Rattle.header_bits.proofs.HeaderTexts.{header_length}
use Rattle.header_bits.proofs.header.header_bits.Goals as goal

pub returns : goal.returns
returns c = omega (arith, header_length c.args.params.now c.requires, c.bits.ensures.value, c.bits-2.ensures.value)
