use Rattle.std.proofs.Common.{w32}
use Rattle.lanes.proofs.Ranges.{vector}
use Rattle.lanes.proofs.Steps.{between}
use Rattle.lanes.proofs.widths.limited.Goals as goal

pub returns : goal.returns
returns g c k within = let a = vector w32 g.row.N c.args.a _ c.well_formed.0 in between w32 c.args.a 32767 4294934528 g.row.N k a.1 a.0 within
