use Rattle.std.proofs.Common.{arith}
use Rattle.block_adaptive.proofs.Stored.{total_few}
use Rattle.block_adaptive.proofs.block_writer.BlockWriter.put_last.Goals as goal

pub overflow_add-total : goal.overflow_add-total
overflow_add-total c = record { fits = omega (arith, total_few _ _ _ c.self.inside.total _ c.self.invariant, c.from.ensures, c.ranges.delta.fits) }
