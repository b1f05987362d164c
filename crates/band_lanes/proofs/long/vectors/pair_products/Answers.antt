use Rattle.std.proofs.Common.{◌+◌, ◌*◌, ◌^◌, ◌<◌, ◌∙◌, ap₂, sym, subst, w32, w64, ◌+ℤ◌, ◌*ℤ◌, unsigned_abs}
use Rattle.lanes.proofs.Ranges.{vector}
use Rattle.lanes.proofs.Steps.{kept}
use Rattle.band_lanes.proofs.long.vectors.pair_products.Goals as goal

pub returns : goal.returns
returns c k within fits =
    let a = vector w32 4 c.args.a _ c.well_formed.0 in let b = vector w32 4 c.args.b _ c.well_formed.1.0 in
    let e = vector w64 2 c.even_products.result _ c.even_products.type_inv in let o = vector w64 2 c.odd_products.result _ c.odd_products.type_inv in
    let r = vector w64 2 c.sum.result _ c.sum.type_inv in
    let first = kept w64 c.even_products.result k e.1 ∙ c.even_products.ensures k within
    ∙ ap₂ (λ x y. x *ℤ y) (kept w32 c.args.a (2 * k) a.1) (kept w32 c.args.b (2 * k) b.1) in
    let second = kept w64 c.odd_products.result k o.1 ∙ c.odd_products.ensures k within
    ∙ ap₂ (λ x y. x *ℤ y) (kept w32 c.args.a (2 * k + 1) a.1) (kept w32 c.args.b (2 * k + 1) b.1) in
    let both = ap₂ (λ x y. x +ℤ y) first second in
    kept w64 c.sum.result k r.1 ∙ c.sum.ensures k within (subst (λ x. unsigned_abs x < 2 ^ 63) (sym both) fits) ∙ both
