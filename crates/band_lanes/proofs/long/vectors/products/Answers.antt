use Rattle.std.proofs.Common.{◌∙◌, w32, w64}
use Rattle.lanes.proofs.Numbers.{long_product_is}
use Rattle.lanes.proofs.Ranges.{vector}
use Rattle.lanes.proofs.Steps.{step_of_casts}
use Rattle.lanes.specs.Lanes.{lane}
use Rattle.band_lanes.proofs.long.vectors.products.Goals as goal

pub returns : goal.returns
returns c k within =
    let a = vector w32 2 c.args.a _ c.well_formed.0 in let b = vector w32 2 c.args.b _ c.well_formed.1.0 in
    step_of_casts w32 w64 _ c.args.a c.args.b 2 k a.0 b.0 (a.1 k) (b.1 k) within ∙ long_product_is (lane c.args.a k) (lane c.args.b k) (a.1 k) (b.1 k)
