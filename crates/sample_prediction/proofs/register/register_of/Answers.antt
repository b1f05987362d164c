use Rattle.std.proofs.Common.{SFits, w64, to_z-of_z, arith, rules}
use Rattle.std.proofs.lemmas.Int.{ints}
use Rattle.sample_prediction.proofs.register.register_of.Goals as goal

pub returns-clause-value : goal.returns-clause-value
returns-clause-value c =
    let distance_fits : SFits w64 c.distance_of.result = search rules in
    let d = simp (to_z-of_z c.ranges.sum, to_z-of_z c.ranges.middle) at c.distance_of.ensures.value in
    let e = simp (to_z-of_z distance_fits) at c.raised.ensures.value in rw (← d, ← e) (omega (arith, ints))
