use Rattle.std.proofs.Common.{rules}
use Rattle.header_bits.proofs.predictor_part.part_of.Goals as goal

pub returns : goal.returns
returns c = search rules
