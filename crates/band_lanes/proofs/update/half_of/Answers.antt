use Rattle.std.proofs.Common.{◌^◌, ◌<◌, pos, ◌+ℤ◌, unsigned_abs, ◌∙◌, sym, ap, ap₂, subst, arith, w16}
use Rattle.std.proofs.lemmas.Simd.{get_or-replicate}
use Rattle.std.proofs.lemmas.Int.{ints}
use Rattle.lanes.specs.Lanes.{lane, halved}
use Rattle.lanes.proofs.Ranges.{vector}
use Rattle.lanes.proofs.Steps.{kept}
use Rattle.band_lanes.proofs.update.half_of.Goals as goal

pub returns : goal.returns
returns c k l h =
    let n = vector w16 16 c.args.numbers _ c.well_formed.0 in let s = vector w16 16 c.sum.result _ c.sum.type_inv in
    let r = vector w16 16 c.shifted.result _ c.shifted.type_inv in let in_word = (n.1 k).sfits in
    let both = ap₂ (λ x y. x +ℤ y) (kept w16 c.args.numbers k n.1) (get_or-replicate 16 k (pos 1) (pos 0) l) in
    let fits : unsigned_abs (lane c.args.numbers k +ℤ pos 1) < 2 ^ 15 = omega (arith, ints, h, in_word) in
    let sum = kept w16 c.sum.result k s.1 ∙ c.sum.ensures k l (subst (λ v. unsigned_abs v < 2 ^ 15) (sym both) fits) ∙ both in
    kept w16 c.shifted.result k r.1 ∙ c.shifted.ensures k l ∙ ap (λ v. halved v 1) sum
