use Rattle.sample_adaptive.proofs.Forms.{form_unique}
use Rattle.sample_adaptive.proofs.laws.one_form.Goals as goal

pub returns : goal.returns
returns c = form_unique
