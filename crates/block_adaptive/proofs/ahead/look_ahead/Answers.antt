use Rattle.std.proofs.Common.{arith}
use Rattle.block_adaptive.proofs.Looking.{looked_word}
use Rattle.block_adaptive.proofs.ahead.look_ahead.Goals as goal

pub returns-in-Some-clause-ahead : goal.returns-in-Some-clause-ahead
returns-in-Some-clause-ahead c = grind (arith, looked_word)
