use Rattle.sample_adaptive.proofs.Forms.{word_unique}
use Rattle.sample_adaptive.proofs.laws.one_word.Goals as goal

pub returns : goal.returns
returns c = word_unique
