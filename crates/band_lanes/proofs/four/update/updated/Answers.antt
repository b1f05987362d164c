use Rattle.std.proofs.Common.{◌+◌, ◌^◌, ◌<◌, ◌≤◌, ◌-ℤ◌, unsigned_abs, ◌∙◌, sym, ap, ap₂, subst, arith, map, to_z, of_z, w32, pow_mono}
use Rattle.std.proofs.lemmas.Int.{ints}
use Rattle.std.proofs.lemmas.Nat.{pow_pos}
use Rattle.lanes.specs.Lanes.{lane}
use Rattle.lanes.proofs.Ranges.{vector}
use Rattle.lanes.proofs.Steps.{kept}
use Rattle.band_lanes.specs.Fours.{opposite_step_of}
use Rattle.band_lanes.proofs.Updates.{with_opposite}
use Rattle.band_lanes.proofs.FourUpdates.{limited_is}
use Rattle.band_lanes.proofs.four.update.updated.Goals as goal

pub opposite-less-requires-clause-small : goal.opposite-less-requires-clause-small
opposite-less-requires-clause-small g c k l =
    let u = vector w32 4 c.numbers-components.result _ c.numbers-components.type_inv in
    rw (kept w32 c.numbers-components.result k u.1 ∙ ap (λ xs. lane xs k) c.numbers-components.ensures) (c.requires.small k l)

pub returns : goal.returns
returns g c k l =
    let w = vector w32 4 c.numbers-weights.result _ c.numbers-weights.type_inv in let u = vector w32 4 c.numbers-components.result _ c.numbers-components.type_inv in
    let own = vector w32 4 c.args.own _ c.well_formed.1.1.0 in let predicted = vector w32 4 c.args.predicted _ c.well_formed.1.1.1.0 in
    let o = vector w32 4 c.opposite-less.result _ c.opposite-less.type_inv in let d = vector w32 4 c.difference-moved.result _ c.difference-moved.type_inv in
    let r = vector w32 4 c.within.result _ c.within.type_inv in let step = c.args.step in
    let few : step.omega + 2 ≤ 21 = (let h = step.omega_in in omega (arith, h)) in let power : 2 ^ (step.omega + 2) ≤ 2 ^ 21 = pow_mono few in
    let some = pow_pos (step.omega + 2) in
    let same_own = kept w32 c.args.own k own.1 in let same_predicted = kept w32 c.args.predicted k predicted.1 in
    let same_w = kept w32 c.numbers-weights.result k w.1 ∙ ap (λ xs. lane xs k) c.numbers-weights.ensures in
    let same_u = kept w32 c.numbers-components.result k u.1 ∙ ap (λ xs. lane xs k) c.numbers-components.ensures in
    let same_less = kept w32 c.opposite-less.result k o.1 in
    let less = c.opposite-less.ensures.value k l
    ∙ ap (λ x. opposite_step_of step.exponent x (lane (map (to_z w32) (map (of_z w32) c.args.predicted)) k) (lane (map (to_z w32) (map (of_z w32) c.numbers-components.result)) k)) same_own
    ∙ ap₂ (λ x y. opposite_step_of step.exponent (lane c.args.own k) x y) same_predicted same_u in
    let both = ap₂ (λ x y. x -ℤ y) same_w same_less in
    let fits : unsigned_abs (lane c.args.weights.now k -ℤ lane c.opposite-less.result k) < 2 ^ 31 =
    (let a = c.requires.weights_in k l in let b = c.opposite-less.ensures.bound k l in omega (arith, ints, a, b)) in
    let moved = kept w32 c.difference-moved.result k d.1 ∙ c.difference-moved.ensures k l (subst (λ v. unsigned_abs v < 2 ^ 31) (sym both) fits) ∙ both in
    kept w32 c.within.result k r.1 ∙ c.within.ensures k l ∙ limited_is _ _ step.limit step.omega power some step.limit_is moved
    ∙ with_opposite step.omega step.exponent (lane c.args.own k) (lane c.args.predicted k) (lane c.args.weights.now k) (lane c.args.components.now k) _ less
