use Rattle.std.proofs.Common.{rules, SFits, w32, w64, to_z-of_z, pos, ◌-ℤ◌, ◌∙◌, arith}
use Rattle.std.proofs.lemmas.Int.{ints}
use Rattle.header_bits.proofs.Entries.{checked_above, checked_below}
use Rattle.header_bits.proofs.check.check_weight.Goals.{then-bound-weight, else-bound-weight}
use Rattle.header_bits.proofs.check.check_weight.Goals as goal

pub returns : goal.returns
returns c =
    let bound = c.power_of_two-bound.result in
    let weight : SFits w32 c.args.weight = search rules in
    let fits : SFits w32 bound × SFits w32 (pos 0 -ℤ bound) × SFits w32 (bound -ℤ pos 1) = omega (arith, ints, c.power_of_two-bound.ensures.range) in
    let value = simp (to_z-of_z weight) at c.from.ensures in
    let wide : SFits w64 c.from.result = omega (arith, ints, value, weight) in
    let refused = simp (to_z-of_z wide) at c.refuse_if.ensures in
    elim c.if-bound-weight.branch [
      | then-bound-weight w ↦ (let is = simp (to_z-of_z weight, to_z-of_z fits.0, to_z-of_z fits.2) at w.refuse_if-is in
          let test = simp (to_z-of_z weight, to_z-of_z fits.0, to_z-of_z fits.1) at w.if-bound-weight.true in
          checked_above _ _ _ bound _ _ c.power_of_two-bound.ensures.value value test is refused)
      | else-bound-weight w ↦ (let is = simp (to_z-of_z weight, to_z-of_z fits.0, to_z-of_z fits.1) at w.refuse_if-is in
          let test = simp (to_z-of_z weight, to_z-of_z fits.0, to_z-of_z fits.1) at w.if-bound-weight.false in
          checked_below _ _ _ bound _ _ c.power_of_two-bound.ensures.value value test (is ∙ test) refused)
    ]
