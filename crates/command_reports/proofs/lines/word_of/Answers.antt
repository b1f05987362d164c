use Rattle.std.proofs.Common.{refl}
use Rattle.command_reports.proofs.lines.word_of.Goals as goal

pub returns-then-set : goal.returns-then-set
returns-then-set c = rw c.if-set.true refl

pub returns-else-set : goal.returns-else-set
returns-else-set c = rw c.if-set.false refl
