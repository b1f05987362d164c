use Rattle.std.proofs.Common.{arith}
use Rattle.speed.proofs.block_coder.decode.Goals as goal

pub next-requires : goal.next-requires
next-requires c = omega (arith, c.loop-number.invariant.count, c.loop-number.invariant.room.room, c.sample_count-count.ensures.value, c.loop-number-test.true)
