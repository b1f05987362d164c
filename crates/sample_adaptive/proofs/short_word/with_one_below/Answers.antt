use Rattle.std.proofs.lemmas.Nat.{le_or_r}
use Rattle.sample_adaptive.proofs.ShortWords.{one_below}
use Rattle.sample_adaptive.proofs.short_word.with_one_below.Goals as goal

pub returns-clause-some : goal.returns-clause-some
returns-clause-some c = le_or_r c.args.word 1

pub returns-clause-ahead : goal.returns-clause-ahead
returns-clause-ahead c = λ left most few h. one_below most left c.args.word few h
