use Rattle.std.proofs.Common.{ap, set, ◌∙◌, w32}
use Rattle.lanes.proofs.Ranges.{vector}
use Rattle.lanes.proofs.Steps.{same}
use Rattle.band_lanes.proofs.four.update.put_row.Goals as goal

pub returns : goal.returns
returns c =
    let r = vector w32 4 c.args.row _ c.well_formed.0 in
    ap (λ v. set c.args.weights.now c.args.c v) (c.put.ensures ∙ same w32 c.args.row r.1)
