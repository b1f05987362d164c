use Rattle.std.proofs.Common.{SFits, w16, w32, to_z-of_z, arith, rules, sym, ◌∙◌}
use Rattle.band_lanes.proofs.step.Step.new.Goals as goal

pub invariant_of-result-clause-bits_in : goal.invariant_of-result-clause-bits_in
invariant_of-result-clause-bits_in c = let e = c.new-deep.ensures.bits in let h = c.requires.bits_in in omega (arith, e, h)

pub invariant_of-result-clause-lowered : goal.invariant_of-result-clause-lowered
invariant_of-result-clause-lowered c r e =
    let fits : SFits w32 c.new-deep.result.exponent = search rules in let half_fits : SFits w16 c.new-deep.result.half = search rules in
    let told = c.new-deep.result.lowered r (sym (to_z-of_z fits) ∙ e) in (to_z-of_z half_fits ∙ told.0, told.1)
