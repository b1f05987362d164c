use Rattle.std.proofs.Common.{arith, SFits, w64, to_z-of_z}
use Rattle.std.proofs.lemmas.Int.{ints}
use Rattle.header_bits.proofs.refusal.out_of_range_if.Goals as goal

pub returns : goal.returns
returns c =
    let fits : SFits w64 c.from-value.result = omega (arith, ints, c.from-value.ensures, c.ranges.number.fits) in
    let refused = simp (to_z-of_z fits) at c.refuse_if.ensures in
    rw c.from-value.ensures at refused
