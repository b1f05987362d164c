use Rattle.std.proofs.Common.{arith, ap}
use Rattle.header_bits.proofs.Pushes.{written_length}
use Rattle.header_bits.proofs.bit_writer.BitWriter.bit_count.Goals as goal

pub returns-clause-count : goal.returns-clause-count
returns-clause-count c =
    omega (arith, written_length c.self.inside.bytes.items c.self.inside.held c.self.inside.part c.args.self.now.bits (ap (λ w. w.bits) c.self.view_is))
