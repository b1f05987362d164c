use Rattle.std.proofs.Common.{arith}
use Rattle.header_bits.proofs.Items.{all_weaker}
use Rattle.block_adaptive.proofs.Bounds.{checked_within}
use Rattle.block_adaptive.proofs.data_sets.quotients.Goals as goal

pub returns-then-bound-most-clause-read : goal.returns-then-bound-most-clause-read
returns-then-bound-most-clause-read c = grind (arith, all_weaker, checked_within)
