use Rattle.std.proofs.Common.{refl}
use Rattle.header_bits.proofs.coder_part.CoderPart.of.Goals as goal

pub returns-in-Each : goal.returns-in-Each
returns-in-Each c = rw (c.constant_field.ensures, c.in-Sample.is, c.in-Each.is) refl

pub returns-in_default : goal.returns-in_default
returns-in_default c = cc
