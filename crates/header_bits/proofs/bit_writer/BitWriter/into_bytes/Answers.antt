use Rattle.std.proofs.Common.{arith, ap}
use Rattle.header_bits.proofs.Pushes.{written_length}
use Rattle.header_bits.proofs.bit_writer.BitWriter.into_bytes.Goals as goal

pub append_part-requires-clause-whole : goal.append_part-requires-clause-whole
append_part-requires-clause-whole c =
    omega (arith, written_length c.self.inside.bytes.items c.self.inside.held c.self.inside.part c.args.self.bits (ap (λ w. w.bits) c.self.view_is))

pub returns-clause-bytes : goal.returns-clause-bytes
returns-clause-bytes c = cc

pub returns-clause-memory : goal.returns-clause-memory
returns-clause-memory c = omega (
  arith,
  c.append_part.ensures.capacity,
  ap (λ w. w.room) c.self.view_is,
  written_length c.self.inside.bytes.items c.self.inside.held c.self.inside.part c.args.self.bits (ap (λ w. w.bits) c.self.view_is),
)
