use Rattle.std.proofs.Common.{SFits, w32, to_z-of_z, rules, ◌∙◌}
use Rattle.predict_core.proofs.prediction.shift_at.Goals as goal

pub returns : goal.returns
returns c =
    let fits : SFits w32 c.exponent_at.result = search rules in
    let e = to_z-of_z fits ∙ rw (c.from.ensures, c.from-2.ensures, c.from-3.ensures) at c.exponent_at.ensures.value in
    record { is = c.step_shift.ensures.exponent ∙ e; room = c.step_shift.ensures.room }
