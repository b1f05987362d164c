use Rattle.std.proofs.Common.{rules}
use Rattle.block_adaptive.proofs.choice.without_split.Goals as goal

pub returns-then-second-uncoded-clause-shorter : goal.returns-then-second-uncoded-clause-shorter
returns-then-second-uncoded-clause-shorter c = search rules
