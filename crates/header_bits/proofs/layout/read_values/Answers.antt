use Rattle.std.proofs.Common.{get_or, ◌∙◌}
use Rattle.header_bits.specs.declared.layout.Slot.TheVariants.{Reserved}
use Rattle.header_bits.proofs.SlotLoops.{narrow_value, slot_narrow, width_left, has_read_more, has_read_all}
use Rattle.header_bits.proofs.layout.read_values.Goals as goal

pub unwrap-code-requires : goal.unwrap-code-requires
unwrap-code-requires c =
    c.take.ensures.enough.1 (rw c.width.ensures (width_left c.args.slots.now c.loop-i.i c.loop-i.reader.left c.loop-i-test.true c.loop-i.invariant.read.whole))

pub value-requires-clause-fits : goal.value-requires-clause-fits
value-requires-clause-fits c =
    let narrow = slot_narrow c.args.slots.now c.loop-i.i c.loop-i-test.true c.requires.narrow in
    let below = rw (c.unwrap-code.ensures, c.width.ensures) at c.take.ensures.below in
    narrow_value (get_or c.args.slots.now c.loop-i.i (Reserved 0)) c.unwrap-code.result narrow below

pub loop-i-preserved : goal.loop-i-preserved
loop-i-preserved c =
    let below = rw (c.unwrap-code.ensures, c.width.ensures) at c.take.ensures.below in
    let taken = rw (c.unwrap-code.ensures, c.width.ensures) at c.take.ensures.taken in
    record {
      read = has_read_more _ _ _ _ _ _ _ _ c.loop-i-test.true c.loop-i.invariant.read below taken c.value.ensures;
      count = c.take.ensures.count ∙ c.loop-i.invariant.count;
    }

pub returns-clause-values : goal.returns-clause-values
returns-clause-values c = (has_read_all _ _ _ _ _ c.loop-i-test.false c.loop-i.invariant.read).0

pub returns-clause-left : goal.returns-clause-left
returns-clause-left c = (has_read_all _ _ _ _ _ c.loop-i-test.false c.loop-i.invariant.read).1
