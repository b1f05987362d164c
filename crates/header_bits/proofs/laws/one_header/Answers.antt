use Rattle.header_bits.specs.Header.{header_at, SpellsHeader}
use Rattle.header_bits.proofs.Exact.{one_spelling}
use Rattle.header_bits.proofs.Headers.{header_exact}
use Rattle.header_bits.proofs.laws.one_header.Goals as goal

pub returns : goal.returns
returns c = one_spelling header_at SpellsHeader header_exact
