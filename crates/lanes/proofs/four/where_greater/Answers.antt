use Rattle.std.proofs.Common.{w32}
use Rattle.lanes.proofs.Ranges.{vector}
use Rattle.lanes.proofs.Steps.{choice}
use Rattle.lanes.proofs.four.where_greater.Goals as goal

pub returns : goal.returns
returns c k within =
    let a = vector w32 4 c.args.a _ c.well_formed.0 in let b = vector w32 4 c.args.b _ c.well_formed.1.0 in
    choice w32 c.args.b c.args.a c.args.yes c.args.no 4 k b.0 a.0 (b.1 k) (a.1 k) c.ranges.yes c.ranges.no within
