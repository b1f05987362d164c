use Rattle.std.proofs.Common.{arith, ap}
use Rattle.header_bits.proofs.bit_reader.BitReader.count.Goals as goal

pub returns : goal.returns
returns c = omega (arith, ap (λ w. w.count) c.self.view_is)
