use Rattle.std.proofs.Common.{◌*◌, ◌*ℤ◌, ◌∙◌, ap₂, w32, w64}
use Rattle.lanes.proofs.Ranges.{vector}
use Rattle.lanes.proofs.Steps.{kept}
use Rattle.band_lanes.proofs.long.vectors.even_products.Goals as goal

pub returns : goal.returns
returns c k within =
    let a = vector w32 4 c.args.a _ c.well_formed.0 in let b = vector w32 4 c.args.b _ c.well_formed.1.0 in
    let x = vector w32 2 c.evens.result _ c.evens.type_inv in let y = vector w32 2 c.evens-2.result _ c.evens-2.type_inv in
    let r = vector w64 2 c.products.result _ c.products.type_inv in
    kept w64 c.products.result k r.1 ∙ c.products.ensures k within
    ∙ ap₂ (λ u v. u *ℤ v) (kept w32 c.evens.result k x.1 ∙ c.evens.ensures k within ∙ kept w32 c.args.a (2 * k) a.1)
    (kept w32 c.evens-2.result k y.1 ∙ c.evens-2.ensures k within ∙ kept w32 c.args.b (2 * k) b.1)
