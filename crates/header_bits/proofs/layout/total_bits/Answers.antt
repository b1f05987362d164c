use Rattle.std.proofs.Common.{arith}
use Rattle.header_bits.proofs.SlotLoops.{narrow_width, total_left, total_none}
use Rattle.header_bits.proofs.layout.total_bits.Goals as goal

pub loop-slot-preserved : goal.loop-slot-preserved
loop-slot-preserved c = record {
  so_far = omega (arith, total_left c.args.slots.now c.loop-slot.slot-index c.loop-slot-test.true);
  most = omega (arith, narrow_width c.args.slots.now c.loop-slot.slot-index c.loop-slot-test.true c.requires.narrow);
}

pub returns-clause-total : goal.returns-clause-total
returns-clause-total c = omega (arith, c.loop-slot.invariant.so_far, total_none c.args.slots.now c.loop-slot.slot-index c.loop-slot-test.false)
