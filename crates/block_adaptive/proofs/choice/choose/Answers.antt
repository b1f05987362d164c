use Rattle.std.proofs.Common.{rules}
use Rattle.block_adaptive.proofs.choice.choose.Goals as goal

pub choose_of_large-requires-clause-some : goal.choose_of_large-requires-clause-some
choose_of_large-requires-clause-some c = search rules
