use Rattle.std.proofs.Common.{◌≡◌, ℕ, ◌+◌, ◌*◌, ◌^◌, ◌<◌, ◌+ℤ◌, ◌*ℤ◌, unsigned_abs, ◌∙◌, sym, ap, ap₂, subst, arith, map, to_z, of_z, w32, w64}
use Rattle.lanes.specs.Lanes.{lane}
use Rattle.lanes.proofs.Ranges.{vector}
use Rattle.lanes.proofs.Steps.{kept}
use Rattle.band_lanes.proofs.long.predict.with_products.Goals as goal

pub returns : goal.returns
returns c k l small fits =
    let s = vector w64 2 c.args.sums _ c.well_formed.0 in
    let w = vector w32 4 c.part_of.result _ c.part_of.type_inv in let u = vector w32 4 c.part_of-2.result _ c.part_of-2.type_inv in
    let p = vector w64 2 c.pair_products-products.result _ c.pair_products-products.type_inv in let r = vector w64 2 c.sum.result _ c.sum.type_inv in
    let weight : (i : ℕ) → i < 4 → lane (map (to_z w32) (map (of_z w32) c.part_of.result)) i ≡ lane c.args.weights.now (4 * c.args.j + i) =
    (λ i m. kept w32 c.part_of.result i w.1 ∙ c.part_of.ensures i m) in
    let component : (i : ℕ) → i < 4 → lane (map (to_z w32) (map (of_z w32) c.part_of-2.result)) i ≡ lane c.args.components.now (4 * c.args.j + i) =
    (λ i m. kept w32 c.part_of-2.result i u.1 ∙ c.part_of-2.ensures i m) in
    let first : 4 * c.args.j + 2 * k ≡ 2 * (2 * c.args.j + k) = omega arith in
    let second : 4 * c.args.j + (2 * k + 1) ≡ 2 * (2 * c.args.j + k) + 1 = omega arith in
    let pair = ap₂ (λ x y. x +ℤ y)
    (ap₂ (λ x y. x *ℤ y) (weight (2 * k) (omega (arith, l)) ∙ ap (λ i. lane c.args.weights.now i) first)
    (component (2 * k) (omega (arith, l)) ∙ ap (λ i. lane c.args.components.now i) first))
    (ap₂ (λ x y. x *ℤ y) (weight (2 * k + 1) (omega (arith, l)) ∙ ap (λ i. lane c.args.weights.now i) second)
    (component (2 * k + 1) (omega (arith, l)) ∙ ap (λ i. lane c.args.components.now i) second)) in
    let both = ap₂ (λ x y. x +ℤ y) (kept w64 c.args.sums k s.1)
    (kept w64 c.pair_products-products.result k p.1 ∙ c.pair_products-products.ensures k l (subst (λ v. unsigned_abs v < 2 ^ 63) (sym pair) small) ∙ pair) in
    kept w64 c.sum.result k r.1 ∙ c.sum.ensures k l (subst (λ v. unsigned_abs v < 2 ^ 63) (sym both) fits) ∙ both
