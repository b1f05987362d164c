use Rattle.std.proofs.Common.{refl}
use Rattle.sample_adaptive.proofs.written_run.put_long.Goals as goal

pub returns-clause-text : goal.returns-clause-text
returns-clause-text c = rw (c.push_reserved.ensures.appended, c.word_of-word.ensures.word) refl
