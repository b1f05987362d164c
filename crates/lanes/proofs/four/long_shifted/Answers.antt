use Rattle.std.proofs.Common.{◌∙◌, w64}
use Rattle.lanes.proofs.Numbers.{shifted_is}
use Rattle.lanes.proofs.Ranges.{vector}
use Rattle.lanes.proofs.Steps.{step_by_one}
use Rattle.lanes.specs.Lanes.{lane}
use Rattle.lanes.proofs.four.long_shifted.Goals as goal

pub returns : goal.returns
returns c k within =
    let a = vector w64 4 c.args.a _ c.well_formed.0 in
    step_by_one w64 _ c.args.a c.args.by 4 k a.0 within ∙ shifted_is w64 (lane c.args.a k) c.args.by (a.1 k)
