use Rattle.header_bits.proofs.fields.check_reserved_field.Goals as goal

pub returns : goal.returns
returns c = rw (← c.total_bits.ensures.total, ← c.width.ensures) c.check_reserved.ensures
