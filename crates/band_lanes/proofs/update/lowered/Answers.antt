use Rattle.std.proofs.Common.{◌≡◌, ◌+◌, ◌/◌, ◌^◌, ◌<◌, ◌≤◌, ℤ, pos, negsuc, ◌≤ℤ◌, ◌-ℤ◌, int_lt, if◌then◌else◌, ◌∙◌, refl, sym, ap, ap₂, arith, map, to_z, of_z, w16, pow_mono}
use Rattle.std.proofs.lemmas.Int.{ints}
use Rattle.lanes.specs.Lanes.{lane, halved}
use Rattle.lanes.proofs.Ranges.{vector}
use Rattle.lanes.proofs.Steps.{kept}
use Rattle.band_lanes.specs.Updates.{opposite_step}
use Rattle.band_lanes.proofs.Updates.{lowered_is, as_is, less_one}
use Rattle.band_lanes.proofs.update.lowered.Goals as goal

pub returns : goal.returns
returns c k l = go c.args.step.exponent refl
  where
    half : k / 2 < 8
    half = omega (arith, l)

    go : (e : ℤ) → c.args.step.exponent ≡ e
        → lane (map (to_z w16) (map (of_z w16) c.shifted.result)) k ≡ opposite_step c.args.step.exponent c.args.own c.args.predicted c.args.components k
    go (negsuc n) e = absurd (let h = c.requires.lowered in omega (arith, ints, h, e))
    go (pos r) e =
        let u = vector w16 16 c.args.components _ c.well_formed.0 in let own = vector w16 8 c.args.own _ c.well_formed.1.0 in
        let predicted = vector w16 8 c.args.predicted _ c.well_formed.1.1.0 in
        let m = vector w16 8 c.where_greater-mask.result _ c.where_greater-mask.type_inv in
        let o = vector w16 8 c.where_greater-rounding.result _ c.where_greater-rounding.type_inv in
        let sm = vector w16 16 c.spread.result _ c.spread.type_inv in let so = vector w16 16 c.spread-2.result _ c.spread-2.type_inv in
        let f = vector w16 16 c.flipped-flipped.result _ c.flipped-flipped.type_inv in let s = vector w16 16 c.sum.result _ c.sum.type_inv in
        let p = vector w16 16 c.shifted.result _ c.shifted.type_inv in
        let rounding : ℤ = c.args.step.half in let low : pos 0 ≤ℤ rounding = (let h = c.args.step.half_in.0 in omega (arith, ints, h)) in
        let high : rounding ≤ℤ pos 8192 = c.args.step.half_in.1 in
        let few : r ≤ 13 = (let h = c.args.step.most in omega (arith, ints, h, e)) in
        let bits : c.args.step.bits + 2 ≤ 14 = (let h = c.requires.shallow in omega (arith, h)) in
        let top : 2 ^ (c.args.step.bits + 2) ≤ 2 ^ 14 = pow_mono bits in
        let same_own = kept w16 c.args.own (k / 2) own.1 in let same_predicted = kept w16 c.args.predicted (k / 2) predicted.1 in
        let same_u = kept w16 c.args.components k u.1 in
        let mask = kept w16 c.spread.result k sm.1 ∙ c.spread.ensures k l ∙ kept w16 c.where_greater-mask.result (k / 2) m.1
        ∙ c.where_greater-mask.ensures (k / 2) half ∙ ap₂ (λ a b. if int_lt a b then negsuc 0 else pos 0) same_predicted same_own in
        let round = kept w16 c.spread-2.result k so.1 ∙ c.spread-2.ensures k l ∙ kept w16 c.where_greater-rounding.result (k / 2) o.1
        ∙ c.where_greater-rounding.ensures (k / 2) half
        ∙ ap₂ (λ a b. if int_lt a b then to_z w16 (of_z w16 rounding) else to_z w16 (of_z w16 (to_z w16 (of_z w16 rounding) -ℤ pos 1))) same_predicted same_own
        ∙ ap₂ (λ a b. if int_lt (lane c.args.predicted (k / 2)) (lane c.args.own (k / 2)) then a else b) (as_is rounding low high) (less_one rounding low high) in
        let flip = kept w16 c.flipped-flipped.result k f.1 in
        let shift = kept w16 c.shifted.result k p.1 ∙ c.shifted.ensures k l ∙ ap (λ x. halved x c.args.step.by) (kept w16 c.sum.result k s.1) in
        let told = lowered_is (lane c.args.components k) (lane c.args.own (k / 2)) (lane c.args.predicted (k / 2)) rounding _ _
        (lane (map (to_z w16) (map (of_z w16) c.flipped-flipped.result)) k) (lane c.sum.result k) _ r c.args.step.by few
        (let h = c.requires.small k l in omega (arith, h, top)) (c.args.step.lowered r e).0 (c.args.step.lowered r e).1 mask round
        (λ z. flip ∙ c.flipped-flipped.ensures.kept k l z ∙ same_u)
        (λ z. flip ∙ c.flipped-flipped.ensures.turned k l z ∙ ap (λ x. negsuc 0 -ℤ x) same_u)
        (λ fits. c.sum.ensures k l fits) shift in
        told ∙ ap (λ x. opposite_step x c.args.own c.args.predicted c.args.components k) (sym e)
