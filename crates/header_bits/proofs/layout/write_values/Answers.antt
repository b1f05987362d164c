use Rattle.std.proofs.Common.{arith, length, ◌<◌, ◌≤◌}
use Rattle.header_bits.proofs.SlotLoops.{next_fits, written_more, written_all, total_left}
use Rattle.header_bits.proofs.layout.write_values.Goals as goal

pub loop-i-preserved : goal.loop-i-preserved
loop-i-preserved c =
    let in_values : c.loop-i.i < length c.args.values.now = omega arith in
    let pushed = rw (c.code.ensures.code, c.width.ensures) at c.in_ok-push.ensures.appended in
    record {
      fit = (next_fits c.args.slots.now c.args.values.now c.loop-i.i c.loop-i-test.true in_values c.loop-i.invariant.fit).1;
      written = written_more _ _ _ _ _ _ c.loop-i-test.true in_values c.loop-i.invariant.written pushed;
      room = omega (arith, c.loop-i.invariant.room, c.in_ok-push.ensures.room, c.width.ensures, total_left c.args.slots.now c.loop-i.i c.loop-i-test.true);
      still = λ h.
          let fits : c.width.result ≤ c.loop-i.writer.room = omega (
            arith,
            h,
            c.loop-i.invariant.room,
            c.width.ensures,
            total_left c.args.slots.now c.loop-i.i c.loop-i-test.true,
          ) in
          omega (arith, c.loop-i.invariant.still h, c.in_ok-push.ensures.still fits);
    }

pub returns-clause-bits : goal.returns-clause-bits
returns-clause-bits c = written_all c.args.slots.now c.args.values.now c.loop-i.i _ c.loop-i.writer.bits c.loop-i-test.false c.loop-i.invariant.written

pub returns-in_err-push-clause-within : goal.returns-in_err-push-clause-within
returns-in_err-push-clause-within c = λ h.
    let never = c.in_err-push.ensures.within (omega (arith, h, total_left c.args.slots.now c.loop-i.i c.loop-i-test.true)) in
    absurd cc

pub code-requires-clause-value : goal.code-requires-clause-value
code-requires-clause-value c = (next_fits c.args.slots.now c.args.values.now c.loop-i.i c.loop-i-test.true (omega arith) c.loop-i.invariant.fit).0
