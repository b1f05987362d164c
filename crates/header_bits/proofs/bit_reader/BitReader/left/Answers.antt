use Rattle.std.proofs.Common.{ap, arith}
use Rattle.header_bits.proofs.Windows.{left_length}
use Rattle.header_bits.proofs.bit_reader.BitReader.left.Goals as goal

pub returns : goal.returns
returns c = omega (arith, left_length _ _ _ c.self.invariant.0 c.self.view_is, ap (λ w. w.count) c.self.view_is)
