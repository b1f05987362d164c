use Rattle.std.proofs.Common.{w16}
use Rattle.lanes.proofs.Ranges.{vector}
use Rattle.lanes.proofs.Steps.{same}
use Rattle.lanes.proofs.narrow.row_of.Goals as goal

pub returns : goal.returns
returns c = let a = vector w16 8 c.args.vector _ c.well_formed.0 in same w16 c.args.vector a.1
