use Rattle.header_bits.proofs.Headers.{header_exact}
use Rattle.header_bits.proofs.laws.header_is_exact.Goals as goal

pub returns : goal.returns
returns c = header_exact
