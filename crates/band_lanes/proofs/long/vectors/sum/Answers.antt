use Rattle.std.proofs.Common.{◌∙◌, w64}
use Rattle.lanes.proofs.Numbers.{sum_is}
use Rattle.lanes.proofs.Ranges.{vector}
use Rattle.lanes.proofs.Steps.{step_of_two}
use Rattle.lanes.specs.Lanes.{lane}
use Rattle.band_lanes.proofs.long.vectors.sum.Goals as goal

pub returns : goal.returns
returns c k within fits =
    let a = vector w64 2 c.args.a _ c.well_formed.0 in let b = vector w64 2 c.args.b _ c.well_formed.1.0 in
    step_of_two w64 _ c.args.a c.args.b 2 k a.0 b.0 within ∙ sum_is w64 (lane c.args.a k) (lane c.args.b k) (a.1 k) (b.1 k) fits
