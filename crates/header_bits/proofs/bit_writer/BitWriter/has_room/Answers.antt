use Rattle.std.proofs.Common.{◌+◌, ◌-◌, ◌*◌, ◌/◌, ◌≤◌, arith, ap}
use Rattle.header_bits.proofs.Pushes.{written_length}
use Rattle.header_bits.proofs.bit_writer.BitWriter.has_room.Goals as goal

pub returns-then-bits-bit_count : goal.returns-then-bits-bit_count
returns-then-bits-bit_count c = λ h.
    let enough : (c.from.result + c.args.bits + 7) / 8 ≤ c.capacity.result - c.len.result = grind (arith, h) in
    omega (
      arith,
      enough,
      c.capacity.ensures,
      c.len.ensures,
      c.from.ensures,
      c.bit_count.ensures.count,
      c.if-bits-bit_count.true,
      c.self.invariant,
      ap (λ w. w.room) c.self.view_is,
      written_length _ _ c.self.inside.part _ (ap (λ w. w.bits) c.self.view_is),
    )
