use Rattle.std.proofs.Common.{◌≡◌, ◌+◌, ◌-◌, ◌/◌, ◌^◌, ◌<◌, ◌≤◌, ℤ, pos, negsuc, ◌+ℤ◌, ◌-ℤ◌, int_lt, if◌then◌else◌, ◌∙◌, refl, sym, ap, ap₂, arith, map, to_z, of_z, w16, pow_mono}
use Rattle.std.proofs.lemmas.Int.{ints}
use Rattle.lanes.specs.Lanes.{lane, halved}
use Rattle.lanes.proofs.Ranges.{vector}
use Rattle.lanes.proofs.Steps.{kept}
use Rattle.band_lanes.specs.Updates.{opposite_step}
use Rattle.band_lanes.proofs.Updates.{deep_lowered_is}
use Rattle.band_lanes.proofs.update.deep_lowered.Goals as goal

pub returns : goal.returns
returns c k l = go c.args.step.exponent refl
  where
    half : k / 2 < 8
    half = omega (arith, l)

    go : (e : ℤ) → c.args.step.exponent ≡ e
        → lane (map (to_z w16) (map (of_z w16) c.half_of.result)) k ≡ opposite_step c.args.step.exponent c.args.own c.args.predicted c.args.components k
    go (negsuc n) e = absurd (let h = c.requires.lowered in omega (arith, ints, h, e))
    go (pos r) e =
        let u = vector w16 16 c.args.components _ c.well_formed.0 in let own = vector w16 8 c.args.own _ c.well_formed.1.0 in
        let predicted = vector w16 8 c.args.predicted _ c.well_formed.1.1.0 in
        let m = vector w16 8 c.where_greater-turn.result _ c.where_greater-turn.type_inv in
        let o = vector w16 8 c.where_greater-less.result _ c.where_greater-less.type_inv in
        let sm = vector w16 16 c.spread.result _ c.spread.type_inv in let so = vector w16 16 c.spread-2.result _ c.spread-2.type_inv in
        let f = vector w16 16 c.flipped-flipped.result _ c.flipped-flipped.type_inv in let s = vector w16 16 c.held_difference.result _ c.held_difference.type_inv in
        let p = vector w16 16 c.shifted.result _ c.shifted.type_inv in let q = vector w16 16 c.half_of.result _ c.half_of.type_inv in
        let few : r ≤ 13 = (let h = c.args.step.most in omega (arith, ints, h, e)) in
        let bits : c.args.step.bits + 2 ≤ 15 = (let h = c.args.step.bits_in in omega (arith, h)) in
        let top : 2 ^ (c.args.step.bits + 2) ≤ 2 ^ 15 = pow_mono bits in
        let same_own = kept w16 c.args.own (k / 2) own.1 in let same_predicted = kept w16 c.args.predicted (k / 2) predicted.1 in
        let same_u = kept w16 c.args.components k u.1 in
        let mask = kept w16 c.spread.result k sm.1 ∙ c.spread.ensures k l ∙ kept w16 c.where_greater-turn.result (k / 2) m.1
        ∙ c.where_greater-turn.ensures (k / 2) half ∙ ap₂ (λ a b. if int_lt a b then negsuc 0 else pos 0) same_predicted same_own in
        let less = kept w16 c.spread-2.result k so.1 ∙ c.spread-2.ensures k l ∙ kept w16 c.where_greater-less.result (k / 2) o.1
        ∙ c.where_greater-less.ensures (k / 2) half ∙ ap₂ (λ a b. if int_lt a b then pos 0 else pos 1) same_predicted same_own in
        let flip = kept w16 c.flipped-flipped.result k f.1 in
        let by : c.args.step.by - 1 ≡ r = (let h = (c.args.step.lowered r e).1 in omega (arith, h)) in
        let shift = c.shifted.ensures k l ∙ ap (λ x. halved x (c.args.step.by - 1)) (kept w16 c.held_difference.result k s.1) in
        let told = deep_lowered_is (lane c.args.components k) (lane c.args.own (k / 2)) (lane c.args.predicted (k / 2)) _ _
        (lane (map (to_z w16) (map (of_z w16) c.flipped-flipped.result)) k) (lane c.held_difference.result k) (lane c.shifted.result k)
        (lane (map (to_z w16) (map (of_z w16) c.half_of.result)) k) r (c.args.step.by - 1) few
        (let h = c.requires.small k l in omega (arith, h, top)) by mask less
        (λ z. flip ∙ c.flipped-flipped.ensures.kept k l z ∙ same_u)
        (λ z. flip ∙ c.flipped-flipped.ensures.turned k l z ∙ ap (λ x. negsuc 0 -ℤ x) same_u)
        (c.held_difference.ensures k l) shift
        (λ limit. kept w16 c.half_of.result k q.1 ∙ c.half_of.ensures k l (rw (kept w16 c.shifted.result k p.1) limit)
        ∙ ap (λ x. halved (x +ℤ pos 1) 1) (kept w16 c.shifted.result k p.1)) in
        told ∙ ap (λ x. opposite_step x c.args.own c.args.predicted c.args.components k) (sym e)
