use Rattle.header_bits.proofs.predictor_part.check_reserved_at.Goals as goal

pub returns : goal.returns
returns c = rw (← c.image_end.ensures) c.check_reserved_field.ensures
