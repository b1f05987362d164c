use Rattle.std.proofs.Common.{refl}
use Rattle.header_bits.proofs.params.Params.plain.Goals as goal

pub returns : goal.returns
returns c = rw c.plain.ensures refl
