use Rattle.std.proofs.Common.{◌≡◌, ◌∙◌, ◌+◌, ◌-◌, ◌≤◌, length, drop, arith, rules}
use Rattle.std.proofs.lemmas.List.{length-take}
use Rattle.block_adaptive.proofs.Holds.{hold_more, block_more, number_more, held_counted, after_refusal}
use Rattle.std.proofs.lemmas.Grind.{common_steps}
use Rattle.header_bits.proofs.Items.{all_take, all_drop}
use Rattle.block_adaptive.proofs.Growing.{grows_both}
use Rattle.block_adaptive.proofs.block_writer.BlockWriter.put_all.Goals as goal

pub put_block-taken-requires-clause-range : goal.put_block-taken-requires-clause-range
put_block-taken-requires-clause-range c = rw c.loop-first.invariant.cut (all_take _ _ _ (all_drop _ _ _ c.requires.numbers))

pub put_block-taken-requires-clause-more : goal.put_block-taken-requires-clause-more
put_block-taken-requires-clause-more c = grind (arith, common_steps)

pub returns-then-taken-size-clause-taken : goal.returns-then-taken-size-clause-taken
returns-then-taken-size-clause-taken c =
    (block_more c.args.numbers.now c.loop-first.first c.self.inside.size c.put_block-taken.result (omega (arith, c.if-taken-size.true))
    c.loop-first.invariant.puts c.put_block-taken.ensures.taken).puts

pub loop-first-preserved-then-numbers-first : goal.loop-first-preserved-then-numbers-first
loop-first-preserved-then-numbers-first c =
    let all : c.put_block-taken.result ≡ c.self.inside.size =
    (let long = length-take (c.loop-first.first + c.self.inside.size - c.loop-first.first) (drop c.loop-first.first c.args.numbers.now) in
    omega (arith, c.if-taken-size.false, c.put_block-taken.ensures.most, long)) in
    record {
      puts = block_more c.args.numbers.now c.loop-first.first c.self.inside.size c.self.inside.size (omega arith) c.loop-first.invariant.puts
          (rw all at c.put_block-taken.ensures.taken);
      counted = omega (arith, all, c.loop-first.invariant.counted, c.put_block-taken.ensures.counted);
      cut = c.put_block-taken.ensures.cut ∙ c.loop-first.invariant.cut;
      within = omega (arith, c.if-numbers-first.true, c.loop-first.invariant.within);
      grows = grows_both c.loop-first.invariant.grows c.put_block-taken.ensures.grows;
    }

pub hold-requires-clause-numbers : goal.hold-requires-clause-numbers
hold-requires-clause-numbers c = rw c.loop-first.invariant.cut (all_take _ _ _ (all_drop _ _ _ c.requires.numbers))

pub hold-requires-clause-few : goal.hold-requires-clause-few
hold-requires-clause-few c = search rules

pub put-requires-clause-more : goal.put-requires-clause-more
put-requires-clause-more c = grind (arith, common_steps)

pub returns-in_default-clause-taken : goal.returns-in_default-clause-taken
returns-in_default-clause-taken c =
    after_refusal c.put.result _ _ c.in_default.not-Ok c.put.ensures.same (hold_more c.args.numbers.now c.loop-first.first c.min.result
    c.loop-first.invariant.puts c.hold.ensures)

pub returns-in_default-clause-counted : goal.returns-in_default-clause-counted
returns-in_default-clause-counted c = grind (arith, common_steps)

pub loop-first-preserved-then-first-numbers : goal.loop-first-preserved-then-first-numbers
loop-first-preserved-then-first-numbers c =
    let was = c.loop-first.invariant in
    let held = hold_more c.args.numbers.now c.loop-first.first c.min.result was.puts c.hold.ensures in
    let counted = held_counted _ _ c.args.numbers.now c.loop-first.first c.min.result (omega (arith, c.min.ensures, was.within)) c.hold.ensures in
    record {
      puts = number_more c.args.numbers.now (c.loop-first.first + c.min.result) held c.if-first-numbers.true c.in-Ok.ensures.taken;
      counted = omega (arith, counted, was.counted, c.in-Ok.ensures.counted);
      cut = c.put.ensures.cut ∙ (λ i. (c.hold.ensures i).cut) ∙ was.cut;
      within = omega (arith, c.if-first-numbers.true);
      grows = grows_both was.grows c.put.ensures.grows;
    }

pub loop-first-preserved : goal.loop-first-preserved
loop-first-preserved c =
    let was = c.loop-first.invariant in
    let within : c.loop-first.first + c.min.result ≤ length c.args.numbers.now = omega (arith, c.min.ensures, was.within) in
    let counted = held_counted _ _ c.args.numbers.now c.loop-first.first c.min.result within c.hold.ensures in
    record {
      puts = hold_more c.args.numbers.now c.loop-first.first c.min.result was.puts c.hold.ensures;
      counted = omega (arith, counted, was.counted);
      cut = (λ i. (c.hold.ensures i).cut) ∙ was.cut;
      within = within;
      grows = was.grows;
    }

pub returns-then-taken-size-clause-grows : goal.returns-then-taken-size-clause-grows
returns-then-taken-size-clause-grows c = grows_both c.loop-first.invariant.grows c.put_block-taken.ensures.grows

pub returns-in_default-clause-grows : goal.returns-in_default-clause-grows
returns-in_default-clause-grows c = grows_both c.loop-first.invariant.grows c.put.ensures.grows
