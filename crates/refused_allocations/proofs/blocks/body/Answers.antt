use Rattle.std.proofs.Common.{arith}
use Rattle.refused_allocations.proofs.blocks.body.Goals as goal

pub put-requires-clause-more : goal.put-requires-clause-more
put-requires-clause-more c = omega (arith, c.loop-t.invariant.count, c.loop-t.invariant.room.room, c.sample_count-count.ensures.value, c.if-t-count.false)
