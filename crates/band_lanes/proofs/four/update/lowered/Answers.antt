use Rattle.std.proofs.Common.{◌≡◌, ◌+◌, ◌^◌, ◌<◌, ◌≤◌, ℕ, ℤ, pos, negsuc, ◌≤ℤ◌, ◌-ℤ◌, int_lt, if◌then◌else◌, ◌∙◌, refl, sym, ap, ap₂, subst, arith, map, to_z, of_z, w32, pow_mono}
use Rattle.std.proofs.lemmas.Int.{ints}
use Rattle.lanes.specs.Lanes.{lane, halved}
use Rattle.lanes.proofs.Ranges.{vector}
use Rattle.lanes.proofs.Steps.{kept}
use Rattle.band_lanes.proofs.FourUpdates.{IsOpposite, lowered_is, as_is, less_one}
use Rattle.band_lanes.proofs.four.update.lowered.Goals as goal
use Rattle.band_lanes.proofs.four.update.lowered.Goals.{After-shifted}

told : (c : After-shifted) (k : ℕ) → k < 4
    → IsOpposite c.args.step.exponent (lane c.args.own k) (lane c.args.predicted k) (lane c.args.components k) (lane (map (to_z w32) (map (of_z w32) c.shifted.result)) k)
told c k l = go c.args.step.exponent refl
  where
    go : (e : ℤ) → c.args.step.exponent ≡ e
        → IsOpposite c.args.step.exponent (lane c.args.own k) (lane c.args.predicted k) (lane c.args.components k) (lane (map (to_z w32) (map (of_z w32) c.shifted.result)) k)
    go (negsuc n) e = absurd (let h = c.requires.lowered in omega (arith, ints, h, e))
    go (pos r) e =
        let u = vector w32 4 c.args.components _ c.well_formed.0 in let own = vector w32 4 c.args.own _ c.well_formed.1.0 in
        let predicted = vector w32 4 c.args.predicted _ c.well_formed.1.1.0 in
        let m = vector w32 4 c.where_greater-mask.result _ c.where_greater-mask.type_inv in
        let o = vector w32 4 c.where_greater-rounding.result _ c.where_greater-rounding.type_inv in
        let f = vector w32 4 c.flipped-flipped.result _ c.flipped-flipped.type_inv in let s = vector w32 4 c.sum.result _ c.sum.type_inv in
        let p = vector w32 4 c.shifted.result _ c.shifted.type_inv in
        let rounding : ℤ = c.args.step.half in let low : pos 0 ≤ℤ rounding = (let h = c.args.step.half_in.0 in omega (arith, ints, h)) in
        let high : rounding ≤ℤ pos 16777216 = c.args.step.half_in.1 in
        let few : r ≤ 21 = (let h = c.args.step.most in omega (arith, ints, h, e)) in
        let bits : c.args.step.bits + 2 ≤ 18 = (let h = c.args.step.bits_in in omega (arith, h)) in
        let top : 2 ^ (c.args.step.bits + 2) ≤ 2 ^ 18 = pow_mono bits in
        let same_own = kept w32 c.args.own k own.1 in let same_predicted = kept w32 c.args.predicted k predicted.1 in
        let same_u = kept w32 c.args.components k u.1 in
        let mask = kept w32 c.where_greater-mask.result k m.1
        ∙ c.where_greater-mask.ensures k l ∙ ap₂ (λ a b. if int_lt a b then negsuc 0 else pos 0) same_predicted same_own in
        let round = kept w32 c.where_greater-rounding.result k o.1
        ∙ c.where_greater-rounding.ensures k l
        ∙ ap₂ (λ a b. if int_lt a b then to_z w32 (of_z w32 rounding) else to_z w32 (of_z w32 (to_z w32 (of_z w32 rounding) -ℤ pos 1))) same_predicted same_own
        ∙ ap₂ (λ a b. if int_lt (lane c.args.predicted k) (lane c.args.own k) then a else b) (as_is rounding low high) (less_one rounding low high) in
        let flip = kept w32 c.flipped-flipped.result k f.1 in
        let shift = kept w32 c.shifted.result k p.1 ∙ c.shifted.ensures k l ∙ ap (λ x. halved x c.args.step.by) (kept w32 c.sum.result k s.1) in
        let told = lowered_is (lane c.args.components k) (lane c.args.own k) (lane c.args.predicted k) rounding _ _
        (lane (map (to_z w32) (map (of_z w32) c.flipped-flipped.result)) k) (lane c.sum.result k) _ r c.args.step.by few
        (let h = c.requires.small k l in omega (arith, h, top)) (c.args.step.lowered r e).0 (c.args.step.lowered r e).1 mask round
        (λ z. flip ∙ c.flipped-flipped.ensures.kept k l z ∙ same_u)
        (λ z. flip ∙ c.flipped-flipped.ensures.turned k l z ∙ ap (λ x. negsuc 0 -ℤ x) same_u)
        (λ fits. c.sum.ensures k l fits) shift in
        subst (λ x. IsOpposite x (lane c.args.own k) (lane c.args.predicted k) (lane c.args.components k) (lane (map (to_z w32) (map (of_z w32) c.shifted.result)) k)) (sym e) told

pub returns-clause-value : goal.returns-clause-value
returns-clause-value c k l = (told c k l).value

pub returns-clause-bound : goal.returns-clause-bound
returns-clause-bound c k l = (told c k l).bound
