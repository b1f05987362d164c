use Rattle.std.proofs.Common.{◌^◌, ◌<◌, ◌+ℤ◌, ◌*ℤ◌, unsigned_abs, ◌∙◌, sym, ap, ap₂, subst, w32, w64}
use Rattle.lanes.specs.Lanes.{lane}
use Rattle.lanes.proofs.Ranges.{vector}
use Rattle.lanes.proofs.Steps.{kept}
use Rattle.band_lanes.proofs.four.predicted.with_products.Goals as goal

pub returns : goal.returns
returns c k l fits =
    let s = vector w64 4 c.args.sums _ c.well_formed.0 in
    let w = vector w32 4 c.numbers.result _ c.numbers.type_inv in let u = vector w32 4 c.numbers-2.result _ c.numbers-2.type_inv in
    let p = vector w64 4 c.long_products-products.result _ c.long_products-products.type_inv in let r = vector w64 4 c.long_sum.result _ c.long_sum.type_inv in
    let same_w = kept w32 c.numbers.result k w.1 ∙ ap (λ xs. lane xs k) c.numbers.ensures in
    let same_u = kept w32 c.numbers-2.result k u.1 ∙ ap (λ xs. lane xs k) c.numbers-2.ensures in
    let both = ap₂ (λ x y. x +ℤ y) (kept w64 c.args.sums k s.1)
    (kept w64 c.long_products-products.result k p.1 ∙ c.long_products-products.ensures k l ∙ ap₂ (λ x y. x *ℤ y) same_w same_u) in
    kept w64 c.long_sum.result k r.1 ∙ c.long_sum.ensures k l (subst (λ v. unsigned_abs v < 2 ^ 63) (sym both) fits) ∙ both
