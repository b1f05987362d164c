use Rattle.std.proofs.Common.{SFits, w32, to_z-of_z, rules}
use Rattle.predict_core.proofs.LanePlaces.{exponent_least, exponent_most}
use Rattle.wave_inversion.proofs.forms.narrow_form_at.Goals as goal

pub new-requires-clause-least : goal.new-requires-clause-least
new-requires-clause-least c =
    let s = c.args.settings.now in let fits : SFits w32 c.exponent_at-exponent.result = search rules in
    rw (to_z-of_z fits, c.exponent_at-exponent.ensures.value) (exponent_least s.predictor s.columns s.range.bits _ s.lawful.order c.requires.narrow)

pub new-requires-clause-most : goal.new-requires-clause-most
new-requires-clause-most c =
    let s = c.args.settings.now in let fits : SFits w32 c.exponent_at-exponent.result = search rules in
    rw (to_z-of_z fits, c.exponent_at-exponent.ensures.value) (exponent_most s.predictor s.columns s.range.bits _ s.lawful.order c.requires.narrow)
