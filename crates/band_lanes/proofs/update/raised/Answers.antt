use Rattle.std.proofs.Common.{◌≡◌, ◌+◌, ◌/◌, ◌^◌, ◌<◌, ◌≤◌, ℤ, pos, negsuc, ◌≤ℤ◌, ◌-ℤ◌, ◌*ℤ◌, unsigned_abs, int_lt, if◌then◌else◌, ◌∙◌, refl, sym, ap, ap₂, subst, arith, map, to_z, of_z, w16}
use Rattle.std.proofs.lemmas.Int.{ints}
use Rattle.lanes.specs.Lanes.{lane}
use Rattle.lanes.proofs.Ranges.{vector}
use Rattle.lanes.proofs.Steps.{kept}
use Rattle.band_lanes.specs.Updates.{opposite_step}
use Rattle.band_lanes.proofs.Updates.{raised_is, as_is, negated}
use Rattle.band_lanes.proofs.update.raised.Goals as goal

pub returns : goal.returns
returns c k l = go c.args.step.exponent refl
  where
    half : k / 2 < 8
    half = omega (arith, l)

    go : (e : ℤ) → c.args.step.exponent ≡ e
        → lane (map (to_z w16) (map (of_z w16) c.product.result)) k ≡ opposite_step c.args.step.exponent c.args.own c.args.predicted c.args.components k
    go (pos n) e = absurd (let h = c.requires.raised in omega (arith, ints, h, e))
    go (negsuc n) e =
        let u = vector w16 16 c.args.components _ c.well_formed.0 in let own = vector w16 8 c.args.own _ c.well_formed.1.0 in
        let predicted = vector w16 8 c.args.predicted _ c.well_formed.1.1.0 in
        let f = vector w16 8 c.where_greater-factors.result _ c.where_greater-factors.type_inv in let s = vector w16 16 c.spread.result _ c.spread.type_inv in
        let p = vector w16 16 c.product.result _ c.product.type_inv in
        let factor : ℤ = c.args.step.factor in let low : pos 0 ≤ℤ factor = (let h = c.args.step.factor_in.0 in omega (arith, ints, h)) in
        let high : factor ≤ℤ pos 8192 = c.args.step.factor_in.1 in
        let few : c.args.step.bits + n ≤ 13 = (let h = c.args.step.least in omega (arith, ints, h, e)) in
        let same_own = kept w16 c.args.own (k / 2) own.1 in let same_predicted = kept w16 c.args.predicted (k / 2) predicted.1 in
        let same_u = kept w16 c.args.components k u.1 in
        let chosen = kept w16 c.spread.result k s.1 ∙ c.spread.ensures k l ∙ kept w16 c.where_greater-factors.result (k / 2) f.1
        ∙ c.where_greater-factors.ensures (k / 2) half
        ∙ ap₂ (λ a b. if int_lt a b then to_z w16 (of_z w16 (pos 0 -ℤ to_z w16 (of_z w16 factor))) else to_z w16 (of_z w16 factor)) same_predicted same_own
        ∙ ap₂ (λ a b. if int_lt (lane c.args.predicted (k / 2)) (lane c.args.own (k / 2)) then a else b) (negated factor low high) (as_is factor low high) in
        let told = raised_is (lane c.args.components k) (lane c.args.own (k / 2)) (lane c.args.predicted (k / 2)) c.args.step.factor _ (lane c.product.result k) n
        c.args.step.bits few (c.requires.small k l) (c.args.step.raised n e) chosen
        (λ fits. c.product.ensures k l (subst (λ x. unsigned_abs (x *ℤ lane (map (to_z w16) (map (of_z w16) c.spread.result)) k) < 2 ^ 15) (sym same_u) fits)
        ∙ ap (λ x. x *ℤ lane (map (to_z w16) (map (of_z w16) c.spread.result)) k) same_u) in
        kept w16 c.product.result k p.1 ∙ told
        ∙ ap (λ x. opposite_step x c.args.own c.args.predicted c.args.components k) (sym e)
