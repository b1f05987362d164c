use Rattle.std.proofs.Common.{◌+◌, ◌-◌, ◌*◌, drop, take, arith}
use Rattle.block_adaptive.specs.Options.{low_groups}
use Rattle.block_adaptive.proofs.Emits.{low_end}
use Rattle.block_adaptive.proofs.Gathers.{goes_room, goes_step, goes_end, lows_of_some, lows_length, pushed}
use Rattle.block_adaptive.proofs.writing.append_lows.Goals as goal

pub low_word-requires-clause-few : goal.low_word-requires-clause-few
low_word-requires-clause-few c = omega (arith, c.requires.k, lows_length c.args.k c.loop-first.first 4 c.args.block.now (omega arith))

pub push_reserved-requires-clause-below : goal.push_reserved-requires-clause-below
push_reserved-requires-clause-below c = rw (lows_length c.args.k c.loop-first.first 4 c.args.block.now (omega arith)) at c.low_word.ensures.below

pub push_reserved-requires-clause-room : goal.push_reserved-requires-clause-room
push_reserved-requires-clause-room c =
    let few = lows_length c.args.k c.loop-first.first 4 c.args.block.now (omega arith) in
    let room = goes_room (low_groups c.args.k (take (c.loop-first.first + 4 - c.loop-first.first) (drop c.loop-first.first c.args.block.now))) _ c.requires.room
    c.loop-first.invariant.goes (lows_of_some c.args.k c.loop-first.first 4 c.args.block.now) in
    omega (arith, room, few)

pub loop-first-preserved : goal.loop-first-preserved
loop-first-preserved c =
    let word = rw (lows_length c.args.k c.loop-first.first 4 c.args.block.now (omega arith)) at c.low_word.ensures.bits in
    let writes = pushed (4 * c.args.k) c.low_word.result c.push_reserved.ensures.appended c.push_reserved.ensures.room in
    record {
      goes = goes_step _ c.loop-first.invariant.goes (lows_of_some _ c.loop-first.first 4 c.args.block.now) (rw word at writes);
      fours = omega (arith, c.loop-first.invariant.fours);
      within = omega (arith, c.loop-first.invariant.fours, c.requires.fours, c.loop-first-test.true);
    }

pub returns : goal.returns
returns c = goes_end c.loop-first.invariant.goes (low_end c.args.k c.loop-first.first c.args.block.now (omega arith))
