use Rattle.std.proofs.lemmas.Grind.{common_steps}
use Rattle.std.proofs.Common.{arith}
use Rattle.header_bits.proofs.bit_reader.padded.Goals as goal

pub returns : goal.returns
returns c = grind (arith, common_steps)
