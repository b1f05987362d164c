use Rattle.std.proofs.Common.{arith}
use Rattle.raw_streams.proofs.part.row_units.Goals as goal

pub returns-in-Bip-clause-row : goal.returns-in-Bip-clause-row
returns-in-Bip-clause-row c = rw (c.in-Bip.is, c.columns-in-Bip.ensures.value) (omega arith)
