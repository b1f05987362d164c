use Rattle.std.proofs.Common.{refl}
use Rattle.header_bits.proofs.bit_reader.BitReader.new.Goals as goal

pub returns-clause-left : goal.returns-clause-left
returns-clause-left c = refl
