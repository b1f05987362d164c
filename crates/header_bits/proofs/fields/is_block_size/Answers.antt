use Rattle.std.proofs.Common.{rules}
use Rattle.header_bits.proofs.fields.is_block_size.Goals as goal

pub returns : goal.returns
returns c = search rules
