use Rattle.std.proofs.Common.{SFits, w32, w64, to_z-of_z, rules, arith}
use Rattle.std.proofs.lemmas.Int.{ints}
use Rattle.sample_prediction.proofs.Scaled.{scaled_is}
use Rattle.sample_prediction.proofs.prediction.scaled_by_product.Goals as goal
use Rattle.sample_prediction.proofs.prediction.scaled_by_product.Goals.{After-scaled_from}

low_fits : (c : After-scaled_from) → SFits w32 c.args.range.now.smin
low_fits c = let h = c.args.range.now.low in search (rules, ints)

middle_fits : (c : After-scaled_from) → SFits w32 c.args.range.now.smid
middle_fits c = let h = c.args.range.now.mid in search (rules, ints)

high_fits : (c : After-scaled_from) → SFits w32 c.args.range.now.smax
high_fits c = let h = c.args.range.now.high in search (rules, ints)

pub returns-clause-value : goal.returns-clause-value
returns-clause-value c ws us same =
    let at = (goal.at.returns-clause-value c).After-scaled_from in let result_fits : SFits w32 c.scaled_from.result = search rules in
    let held_fits : SFits w64 c.register_of.result = search rules in let register_fits : SFits w64 c.wrapped_value-register.result = search rules in
    let upper_fits : SFits w64 c.floor_shift-upper.result = search rules in
    let a = simp (to_z-of_z c.ranges.product, to_z-of_z c.ranges.sum, to_z-of_z (middle_fits at)) at c.register_of.ensures.value in
    let b = rw a at (simp (to_z-of_z held_fits) at c.wrapped_value-register.ensures) in
    let d = simp (to_z-of_z register_fits) at c.floor_shift-upper.ensures.value in
    let e = simp (to_z-of_z (low_fits at), to_z-of_z (high_fits at), to_z-of_z (middle_fits at), to_z-of_z upper_fits) at c.scaled_from.ensures.value in
    rw (to_z-of_z result_fits)
    (scaled_is _ _ _ ws us _ _ _ _ _ _ _ same c.args.range.now.smid_is b d c.args.range.now.smin_is c.args.range.now.smax_is e)

pub returns-clause-scaled : goal.returns-clause-scaled
returns-clause-scaled c =
    let at = (goal.at.returns-clause-scaled c).After-scaled_from in let result_fits : SFits w32 c.scaled_from.result = search rules in
    rw (to_z-of_z result_fits, ← c.args.range.now.smin_is, ← c.args.range.now.smax_is)
    (simp (to_z-of_z (low_fits at)) at c.scaled_from.ensures.low_end, simp (to_z-of_z (high_fits at)) at c.scaled_from.ensures.high_end)

pub register_of-requires-clause-omega_in : goal.register_of-requires-clause-omega_in
register_of-requires-clause-omega_in c = omega arith

pub scaled_from-requires-clause-low_in : goal.scaled_from-requires-clause-low_in
scaled_from-requires-clause-low_in c = omega (arith, ints)

pub scaled_from-requires-clause-upper_in : goal.scaled_from-requires-clause-upper_in
scaled_from-requires-clause-upper_in c =
    let fits : SFits w64 c.floor_shift-upper.result = search rules in rw (to_z-of_z fits) (c.floor_shift-upper.ensures.bound (omega arith))

pub wrapped_value-register-requires-clause-least : goal.wrapped_value-register-requires-clause-least
wrapped_value-register-requires-clause-least c = c.requires.lawful.register.0

pub wrapped_value-register-requires-clause-most : goal.wrapped_value-register-requires-clause-most
wrapped_value-register-requires-clause-most c = c.requires.lawful.register.1
