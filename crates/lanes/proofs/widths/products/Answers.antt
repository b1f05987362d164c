use Rattle.std.proofs.Common.{◌∙◌, w16, w32}
use Rattle.lanes.proofs.Numbers.{wide_product_is}
use Rattle.lanes.proofs.Ranges.{vector}
use Rattle.lanes.proofs.Steps.{step_of_casts}
use Rattle.lanes.specs.Lanes.{lane}
use Rattle.lanes.proofs.widths.products.Goals as goal

pub returns : goal.returns
returns c k within =
    let a = vector w16 16 c.args.a _ c.well_formed.0 in let b = vector w16 16 c.args.b _ c.well_formed.1.0 in
    step_of_casts w16 w32 _ c.args.a c.args.b 16 k a.0 b.0 (a.1 k) (b.1 k) within ∙ wide_product_is (lane c.args.a k) (lane c.args.b k) (a.1 k) (b.1 k)
