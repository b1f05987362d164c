use Rattle.std.proofs.Common.{refl}
use Rattle.header_bits.proofs.tables.WeightTable.new.Goals as goal

pub returns : goal.returns
returns c = refl
