use Rattle.std.proofs.Common.{rules}
use Rattle.header_bits.proofs.written_bytes.grow.Goals as goal

pub returns-clause-bounded : goal.returns-clause-bounded
returns-clause-bounded c = search rules
