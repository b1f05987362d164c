use Rattle.sample_adaptive.proofs.Refusals.{truncated_is_no_form}
use Rattle.sample_adaptive.proofs.laws.truncated_is_no_form.Goals as goal

pub returns : goal.returns
returns c = truncated_is_no_form
