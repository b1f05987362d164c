use Rattle.std.proofs.Common.{◌+◌, ◌-◌, ◌%◌, ◌^◌, drop, take, ap, ◌∙◌, arith}
use Rattle.std.proofs.Math.Nat.{mod-lt}
use Rattle.std.proofs.lemmas.Nat.{pow_pos}
use Rattle.header_bits.specs.Bits.{bits_of}
use Rattle.header_bits.proofs.Numbers.{bits_of-mod}
use Rattle.lanes.specs.Lanes.{number}
use Rattle.block_adaptive.specs.Options.{low_groups}
use Rattle.block_adaptive.proofs.Emits.{low_end}
use Rattle.block_adaptive.proofs.Gathers.{goes_room, goes_step, goes_end, lows_of_some, lows_length}
use Rattle.block_adaptive.proofs.LaneTexts.{equal_length, lows_of_eight}
use Rattle.block_adaptive.proofs.written_split.append_low_eights.Goals as goal

pub push_equal_eight-writer-requires-clause-below : goal.push_equal_eight-writer-requires-clause-below
push_equal_eight-writer-requires-clause-below c j lt = rw (c.lows_of-lows.ensures j lt) (mod-lt (number c.numbers_at.result j) (pow_pos c.args.k))

pub push_equal_eight-writer-requires-clause-room : goal.push_equal_eight-writer-requires-clause-room
push_equal_eight-writer-requires-clause-room c =
    let first = c.loop-first.first in
    let few = lows_length c.args.k first 8 c.args.block.now (omega (arith, c.loop-first.invariant.eights, c.requires.eights, c.loop-first-test.true)) in
    let room = goes_room (low_groups c.args.k (take (first + 8 - first) (drop first c.args.block.now))) _ c.requires.room c.loop-first.invariant.goes
    (lows_of_some c.args.k first 8 c.args.block.now) in
    omega (arith, room, few)

pub loop-first-preserved : goal.loop-first-preserved
loop-first-preserved c =
    let k = c.args.k in
    let lows = c.lows_of-lows.result in
    record {
      goes = goes_step _ c.loop-first.invariant.goes
          (lows_of_eight (λ j. bits_of k (number lows j)) k c.loop-first.first c.args.block.now
          (λ j lt. ap (bits_of k) (c.lows_of-lows.ensures j lt ∙ ap (λ n. n % 2 ^ k) (c.numbers_at.ensures.same j lt)) ∙ bits_of-mod k k _ (omega arith))
          (omega (arith, c.loop-first.invariant.eights, c.requires.eights, c.loop-first-test.true)))
          (record {
            appended = c.push_equal_eight-writer.ensures.text;
            spent = rw (equal_length k (number lows) 8 0) c.push_equal_eight-writer.ensures.room;
          });
      eights = omega (arith, c.loop-first.invariant.eights);
      within = omega (arith, c.loop-first.invariant.eights, c.requires.eights, c.loop-first-test.true);
    }

pub returns : goal.returns
returns c = goes_end c.loop-first.invariant.goes (low_end c.args.k c.loop-first.first c.args.block.now (omega arith))
