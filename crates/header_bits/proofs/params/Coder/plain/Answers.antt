use Rattle.std.proofs.Common.{refl}
use Rattle.header_bits.proofs.params.Coder.plain.Goals as goal

pub returns : goal.returns
returns c = refl
