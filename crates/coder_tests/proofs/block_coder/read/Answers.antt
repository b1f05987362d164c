use Rattle.std.proofs.Common.{arith}
use Rattle.coder_tests.proofs.block_coder.read.Goals as goal

pub next-requires : goal.next-requires
next-requires g c =
    omega (arith, c.loop-number.invariant.count, c.loop-number.invariant.room.room, c.sample_count-number-end.ensures.value, c.loop-number-test.true)
