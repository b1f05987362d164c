use Rattle.std.proofs.Common.{◌≡◌, ℤ, pos, negsuc, ◌+ℤ◌, ◌*ℤ◌, ◌≤ℤ◌, SFits, w32, to_z, of_z, to_z-of_z, rules, arith, ◌∙◌}
use Rattle.std.specs.Int.{int_min, int_max}
use Rattle.std.proofs.lemmas.Int.{ints, clamps}
use Rattle.sample_prediction.proofs.residual.clipped.Goals as goal
use Rattle.sample_prediction.proofs.residual.clipped.Goals.{After-max}

top_is : (high : ℤ) → negsuc 32767 ≤ℤ high → high ≤ℤ pos 65535
    → to_z w32 (of_z w32 (to_z w32 (of_z w32 (pos 2 *ℤ to_z w32 (of_z w32 high))) +ℤ pos 1)) ≡ pos 2 *ℤ high +ℤ pos 1
top_is high h k = omega (arith, ints)

bottom_is : (low : ℤ) → negsuc 32767 ≤ℤ low → low ≤ℤ pos 65535 → to_z w32 (of_z w32 (pos 2 *ℤ to_z w32 (of_z w32 low))) ≡ pos 2 *ℤ low
bottom_is low h k = omega (arith, ints)

held : (c : After-max) → to_z w32 (of_z w32 c.max.result) ≡ int_max (int_min c.args.center (pos 2 *ℤ c.args.high +ℤ pos 1)) (pos 2 *ℤ c.args.low)
held c =
    let min_fits : SFits w32 c.min.result = search rules in let max_fits : SFits w32 c.max.result = search rules in
    let top = top_is c.args.high (omega (arith, ints, c.requires.low_in, c.requires.order)) c.requires.high_top in
    let bottom = bottom_is c.args.low c.requires.low_in (omega (arith, ints, c.requires.order, c.requires.high_top)) in
    let a = rw (top, to_z-of_z c.ranges.center) at c.min.ensures.value in to_z-of_z max_fits ∙ rw (bottom, to_z-of_z min_fits, a) at c.max.ensures.value

pub returns-clause-value : goal.returns-clause-value
returns-clause-value c = rw (held c) (omega (arith, ints, clamps, c.requires.order))

pub returns-clause-least : goal.returns-clause-least
returns-clause-least c = let d = (goal.at.returns-clause-least c).After-max in rw (held d) (omega (arith, ints, clamps))

pub returns-clause-most : goal.returns-clause-most
returns-clause-most c = let d = (goal.at.returns-clause-most c).After-max in rw (held d) (omega (arith, ints, clamps, c.requires.order))
