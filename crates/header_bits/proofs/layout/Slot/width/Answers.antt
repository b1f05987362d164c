use Rattle.std.proofs.Common.{refl}
use Rattle.header_bits.proofs.layout.Slot.width.Goals as goal

pub returns-in-Plain : goal.returns-in-Plain
returns-in-Plain c = rw c.in-Plain.is refl
