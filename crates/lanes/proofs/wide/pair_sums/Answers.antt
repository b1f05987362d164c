use Rattle.std.proofs.Common.{◌+◌, ◌*◌, ◌^◌, ◌<◌, ◌∙◌, ap₂, sym, subst, arith, w16, w32, ◌+ℤ◌, ◌*ℤ◌, unsigned_abs}
use Rattle.lanes.proofs.Ranges.{vector}
use Rattle.lanes.proofs.Steps.{kept}
use Rattle.lanes.proofs.wide.pair_sums.Goals as goal

pub returns : goal.returns
returns c k within fits =
    let a = vector w16 16 c.args.a _ c.well_formed.0 in let b = vector w16 16 c.args.b _ c.well_formed.1.0 in
    let p = vector w32 16 c.products-all.result _ c.products-all.type_inv in
    let e = vector w32 8 c.evens.result _ c.evens.type_inv in
    let o = vector w32 8 c.odds.result _ c.odds.type_inv in
    let r = vector w32 8 c.sum.result _ c.sum.type_inv in
    let first = kept w32 c.evens.result k e.1 ∙ c.evens.ensures k within ∙ kept w32 c.products-all.result (2 * k) p.1 ∙ c.products-all.ensures (2 * k) (omega arith)
    ∙ ap₂ (λ x y. x *ℤ y) (kept w16 c.args.a (2 * k) a.1) (kept w16 c.args.b (2 * k) b.1) in
    let second = kept w32 c.odds.result k o.1 ∙ c.odds.ensures k within ∙ kept w32 c.products-all.result (2 * k + 1) p.1 ∙ c.products-all.ensures (2 * k + 1) (omega arith)
    ∙ ap₂ (λ x y. x *ℤ y) (kept w16 c.args.a (2 * k + 1) a.1) (kept w16 c.args.b (2 * k + 1) b.1) in
    let both = ap₂ (λ x y. x +ℤ y) first second in
    kept w32 c.sum.result k r.1 ∙ c.sum.ensures k within (subst (λ x. unsigned_abs x < 2 ^ 31) (sym both) fits) ∙ both
