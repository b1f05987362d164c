use Rattle.block_adaptive.proofs.Fours.{four_read}
use Rattle.block_adaptive.proofs.lows.four_lows.Goals as goal

pub returns-in-Some-clause-read : goal.returns-in-Some-clause-read
returns-in-Some-clause-read c =
    rw (c.skip.ensures.left, c.from.ensures) (four_read _ _ _ _ _ _ _ c.in-Some.ensures.bits c.requires.depth c.requires.four c.requires.within
    c.join_lows.ensures)
