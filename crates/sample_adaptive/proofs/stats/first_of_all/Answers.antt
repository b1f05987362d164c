use Rattle.std.proofs.lemmas.Grind.{common_steps}
use Rattle.std.proofs.Common.{arith}
use Rattle.sample_adaptive.proofs.Counting.{start_in_range}
use Rattle.sample_adaptive.proofs.stats.first_of_all.Goals as goal

pub of-requires : goal.of-requires
of-requires c =
    rw c.first-statistics.ensures.value (start_in_range _ c.args.gamma_zero c.constant.result c.requires.exponent.1 c.requires.exponent.0
    (rw c.constant.ensures (c.requires.constants c.loop-z.z c.loop-z-test.true)))

pub loop-z-preserved : goal.loop-z-preserved
loop-z-preserved c = grind (arith, common_steps)
