use Rattle.std.proofs.Common.{arith}
use Rattle.coder_tests.proofs.block_coder.written.Goals as goal

pub put-requires-clause-more : goal.put-requires-clause-more
put-requires-clause-more g c = omega (arith, c.loop-number.invariant.count, c.loop-number.invariant.room.room, c.requires.count, c.loop-number-test.true)
