use Rattle.sample_adaptive.proofs.Refusals.{word_is_read}
use Rattle.sample_adaptive.proofs.laws.word_is_read.Goals as goal

pub returns : goal.returns
returns c = word_is_read
