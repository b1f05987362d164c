use Rattle.std.proofs.Common.{pos, ◌^◌, ◌<◌, ◌+ℤ◌, unsigned_abs, ◌∙◌, sym, ap, ap₂, subst, w32}
use Rattle.std.specs.Int.{int_rem_euclid}
use Rattle.lanes.proofs.Ranges.{vector}
use Rattle.lanes.proofs.Steps.{kept}
use Rattle.band_lanes.proofs.predicted.with_rest.Goals as goal

pub returns : goal.returns
returns c b l fits =
    let h = vector w32 8 c.args.low _ c.well_formed.0 in let n = vector w32 8 c.args.numbers _ c.well_formed.1.0 in
    let s = vector w32 8 c.masked.result _ c.masked.type_inv in let r = vector w32 8 c.sum.result _ c.sum.type_inv in
    let both = ap₂ (λ x y. x +ℤ y) (kept w32 c.args.low b h.1)
    (kept w32 c.masked.result b s.1 ∙ c.masked.ensures b l ∙ ap (λ x. int_rem_euclid x (pos (2 ^ c.args.omega))) (kept w32 c.args.numbers b n.1)) in
    kept w32 c.sum.result b r.1 ∙ c.sum.ensures b l (subst (λ x. unsigned_abs x < 2 ^ 31) (sym both) fits) ∙ both
