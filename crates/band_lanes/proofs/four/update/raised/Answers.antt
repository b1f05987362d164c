use Rattle.std.proofs.Common.{◌≡◌, ◌+◌, ◌^◌, ◌<◌, ◌≤◌, ℕ, ℤ, pos, negsuc, ◌≤ℤ◌, ◌-ℤ◌, ◌*ℤ◌, unsigned_abs, int_lt, if◌then◌else◌, ◌∙◌, refl, sym, ap, ap₂, subst, arith, map, to_z, of_z, w32}
use Rattle.std.proofs.lemmas.Int.{ints}
use Rattle.lanes.specs.Lanes.{lane}
use Rattle.lanes.proofs.Ranges.{vector}
use Rattle.lanes.proofs.Steps.{kept}
use Rattle.band_lanes.proofs.FourUpdates.{IsOpposite, raised_is, as_is, negated}
use Rattle.band_lanes.proofs.four.update.raised.Goals as goal
use Rattle.band_lanes.proofs.four.update.raised.Goals.{After-product}

told : (c : After-product) (k : ℕ) → k < 4
    → IsOpposite c.args.step.exponent (lane c.args.own k) (lane c.args.predicted k) (lane c.args.components k) (lane (map (to_z w32) (map (of_z w32) c.product.result)) k)
told c k l = go c.args.step.exponent refl
  where
    go : (e : ℤ) → c.args.step.exponent ≡ e
        → IsOpposite c.args.step.exponent (lane c.args.own k) (lane c.args.predicted k) (lane c.args.components k) (lane (map (to_z w32) (map (of_z w32) c.product.result)) k)
    go (pos n) e = absurd (let h = c.requires.raised in omega (arith, ints, h, e))
    go (negsuc n) e =
        let u = vector w32 4 c.args.components _ c.well_formed.0 in let own = vector w32 4 c.args.own _ c.well_formed.1.0 in
        let predicted = vector w32 4 c.args.predicted _ c.well_formed.1.1.0 in
        let f = vector w32 4 c.where_greater-factors.result _ c.where_greater-factors.type_inv in
        let p = vector w32 4 c.product.result _ c.product.type_inv in
        let factor : ℤ = c.args.step.factor in let low : pos 0 ≤ℤ factor = (let h = c.args.step.factor_in.0 in omega (arith, ints, h)) in
        let high : factor ≤ℤ pos 16777216 = c.args.step.factor_in.1 in
        let few : c.args.step.bits + n ≤ 24 = (let h = c.args.step.least in omega (arith, ints, h, e)) in
        let same_own = kept w32 c.args.own k own.1 in let same_predicted = kept w32 c.args.predicted k predicted.1 in
        let same_u = kept w32 c.args.components k u.1 in
        let chosen = kept w32 c.where_greater-factors.result k f.1
        ∙ c.where_greater-factors.ensures k l
        ∙ ap₂ (λ a b. if int_lt a b then to_z w32 (of_z w32 (pos 0 -ℤ to_z w32 (of_z w32 factor))) else to_z w32 (of_z w32 factor)) same_predicted same_own
        ∙ ap₂ (λ a b. if int_lt (lane c.args.predicted k) (lane c.args.own k) then a else b) (negated factor low high) (as_is factor low high) in
        let told = raised_is (lane c.args.components k) (lane c.args.own k) (lane c.args.predicted k) c.args.step.factor _ (lane c.product.result k) n
        c.args.step.bits few (c.requires.small k l) (c.args.step.raised n e) chosen
        (λ fits. c.product.ensures k l (subst (λ x. unsigned_abs (x *ℤ lane (map (to_z w32) (map (of_z w32) c.where_greater-factors.result)) k) < 2 ^ 31) (sym same_u) fits)
        ∙ ap (λ x. x *ℤ lane (map (to_z w32) (map (of_z w32) c.where_greater-factors.result)) k) same_u) in
        subst (λ v. IsOpposite c.args.step.exponent (lane c.args.own k) (lane c.args.predicted k) (lane c.args.components k) v) (sym (kept w32 c.product.result k p.1))
        (subst (λ x. IsOpposite x (lane c.args.own k) (lane c.args.predicted k) (lane c.args.components k) (lane c.product.result k)) (sym e) told)

pub returns-clause-value : goal.returns-clause-value
returns-clause-value c k l = (told c k l).value

pub returns-clause-bound : goal.returns-clause-bound
returns-clause-bound c k l = (told c k l).bound
