use Rattle.std.proofs.Common.{rules}
use Rattle.block_adaptive.proofs.ahead.take_used.Goals as goal

pub returns-clause-left : goal.returns-clause-left
returns-clause-left c = search rules
