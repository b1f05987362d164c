use Rattle.std.proofs.Common.{arith}
use Rattle.coder_tests.proofs.block_coder.refusal_of.Goals as goal

pub next-requires : goal.next-requires
next-requires g c = omega (arith, c.new-blocks.ensures.count, c.new-blocks.ensures.room.room, c.sample_count.ensures.value, c.sample_count.ensures.range)
