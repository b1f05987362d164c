use Rattle.std.proofs.Common.{arith}
use Rattle.std.proofs.lemmas.Int.{ints}
use Rattle.wave_inversion.proofs.unmapping.near_offset.Goals as goal

pub returns-else-unsigned_abs-eq0-clause-odd : goal.returns-else-unsigned_abs-eq0-clause-odd
returns-else-unsigned_abs-eq0-clause-odd c odd =
    let v = c.requires.value_in in let r = c.requires.residual_in in
    let low = c.half_of-half.ensures.low in let high = c.half_of-half.ensures.high in
    omega (arith, ints, v.0, v.1, r.0, r.1, low, high)
