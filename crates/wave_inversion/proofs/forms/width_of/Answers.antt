use Rattle.wave_inversion.specs.WaveForms.{form_in}
use Rattle.wave_inversion.proofs.forms.width_of.Goals as goal

pub returns-in-Some-clause-form : goal.returns-in-Some-clause-form
unfolding form_in
returns-in-Some-clause-form c = c.in-Some.ensures.form

pub returns-in-Some-long_form_of-clause-form : goal.returns-in-Some-long_form_of-clause-form
unfolding form_in
returns-in-Some-long_form_of-clause-form c = c.in-Some-long_form_of.ensures.form
