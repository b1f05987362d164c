use Rattle.sample_adaptive.proofs.Refusals.{bad_code_is_no_word}
use Rattle.sample_adaptive.proofs.laws.bad_code_is_no_word.Goals as goal

pub returns : goal.returns
returns c = bad_code_is_no_word
