use Rattle.std.proofs.Common.{arith}
use Rattle.sample_adaptive.proofs.Eights.{small_sum}
use Rattle.sample_adaptive.proofs.eight_run.are_each.Goals as goal

pub where_less-under-requires-clause-a : goal.where_less-under-requires-clause-a
where_less-under-requires-clause-a c j few =
    omega (arith, small_sum _ _ _ _ c.requires.piece c.args.i j few c.requires.within, c.requires.before j few)

pub where_less-under-requires-clause-b : goal.where_less-under-requires-clause-b
where_less-under-requires-clause-b c j few = omega (arith, c.thresholds_of.ensures.small j few)

pub where_less-within-requires-clause-a : goal.where_less-within-requires-clause-a
where_less-within-requires-clause-a c j few =
    omega (arith, small_sum _ _ _ _ c.requires.piece c.args.i j few c.requires.within, c.requires.before j few)

pub where_less-within-requires-clause-b : goal.where_less-within-requires-clause-b
where_less-within-requires-clause-b c j few = omega (arith, c.thresholds_of-2.ensures.small j few)
