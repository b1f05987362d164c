use Rattle.std.proofs.Common.{◌^◌, ◌<◌, arith}
use Rattle.std.proofs.lemmas.List.{drop_all}
use Rattle.header_bits.proofs.TableWriting.{writing_enough, writing_next, writing_end, number_left, all_at}
use Rattle.header_bits.proofs.constant_part.put_constants.Goals as goal

pub push-requires-clause-below : goal.push-requires-clause-below
push-requires-clause-below c = rw c.from.ensures (all_at (λ k. k < 2 ^ 4) _ _ 0 c.loop-constant-test.true c.requires.small)

pub unwrap-requires : goal.unwrap-requires
unwrap-requires c =
    c.push.ensures.within (writing_enough 4 _ _ _ _ _ _ (number_left _ _ c.loop-constant-test.true) c.requires.room c.loop-constant.invariant)

pub loop-constant-preserved : goal.loop-constant-preserved
loop-constant-preserved c =
    let appended = rw (c.unwrap.ensures, c.from.ensures) at c.push.ensures.appended in
    let room = rw c.unwrap.ensures at c.push.ensures.room in
    let fits = writing_enough 4 _ _ _ _ _ _ (number_left _ _ c.loop-constant-test.true) c.requires.room c.loop-constant.invariant in
    writing_next 4 _ _ _ _ _ _ _ (number_left _ _ c.loop-constant-test.true) c.loop-constant.invariant appended room
    (omega (arith, c.push.ensures.still fits))

pub returns-clause-bits : goal.returns-clause-bits
returns-clause-bits c = (writing_end 4 _ _ _ _ (drop_all _ _ c.loop-constant-test.false) c.loop-constant.invariant).0

pub returns-clause-room : goal.returns-clause-room
returns-clause-room c = (writing_end 4 _ _ _ _ (drop_all _ _ c.loop-constant-test.false) c.loop-constant.invariant).1

pub returns-clause-still : goal.returns-clause-still
returns-clause-still c = c.loop-constant.invariant.still
