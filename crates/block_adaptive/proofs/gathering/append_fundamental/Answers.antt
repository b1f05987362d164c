use Rattle.std.proofs.Common.{[], ◌+◌, ◌^◌, ◌≤◌, arith, refl}
use Rattle.std.proofs.Math.Pow.{pow_mono}
use Rattle.block_adaptive.proofs.Gathers.{goes_step, goes_end, pushed}
use Rattle.block_adaptive.proofs.gathering.append_fundamental.Goals as goal
use Rattle.block_adaptive.proofs.Zeros.{length-fundamental, sixty_four_more, last_zeros}

pub push_reserved-requires-clause-room : goal.push_reserved-requires-clause-room
push_reserved-requires-clause-room c =
    omega (arith, c.requires, c.loop-left.invariant.room, length-fundamental c.loop-left.left, length-fundamental c.args.zeros, c.loop-left-test.true)

pub loop-left-preserved : goal.loop-left-preserved
loop-left-preserved c =
    goes_step _ c.loop-left.invariant (sixty_four_more _ c.loop-left-test.true) (pushed 64 0 c.push_reserved.ensures.appended c.push_reserved.ensures.room)

pub push_reserved-requires-2-clause-below : goal.push_reserved-requires-2-clause-below
push_reserved-requires-2-clause-below c =
    let p : 2 ^ 1 ≤ 2 ^ (c.loop-left.left + 1) = pow_mono {i = 1} {j = c.loop-left.left + 1} (omega arith) in
    omega (arith, p)

pub push_reserved-requires-2-clause-room : goal.push_reserved-requires-2-clause-room
push_reserved-requires-2-clause-room c = omega (arith, c.requires, c.loop-left.invariant.room, length-fundamental c.loop-left.left, length-fundamental c.args.zeros)

pub returns : goal.returns
returns c = goes_end (goes_step [] c.loop-left.invariant (last_zeros _) (pushed _ 1 c.push_reserved-2.ensures.appended c.push_reserved-2.ensures.room)) refl
