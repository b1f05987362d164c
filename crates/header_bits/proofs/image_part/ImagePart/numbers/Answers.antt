use Rattle.std.proofs.Common.{refl}
use Rattle.header_bits.proofs.Held.{flag_byte}
use Rattle.header_bits.proofs.image_part.ImagePart.numbers.Goals as goal

pub returns : goal.returns
returns c =
    let i = c.args.self.now in
    rw (
      c.columns.ensures.value,
      c.rows.ensures.value,
      c.bands.ensures.value,
      c.from.ensures,
      c.is_signed.ensures,
      flag_byte i.kind.signed,
      c.bits.ensures.value,
      c.order_bit.ensures,
      c.depth_number.ensures,
      c.from-2.ensures,
      flag_byte i.block,
    ) refl
