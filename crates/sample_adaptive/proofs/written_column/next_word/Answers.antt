use Rattle.std.proofs.lemmas.Grind.{common_steps}
use Rattle.std.proofs.Common.{arith, rules}
use Rattle.sample_adaptive.proofs.written_column.next_word.Goals as goal

pub returns-clause-counts : goal.returns-clause-counts
returns-clause-counts c = search rules

pub returns-clause-word : goal.returns-clause-word
returns-clause-word c = search rules

pub returns-then-first-clause-counts : goal.returns-then-first-clause-counts
returns-then-first-clause-counts c = grind (arith, common_steps)

pub returns-then-first-clause-word : goal.returns-then-first-clause-word
returns-then-first-clause-word c = search rules
