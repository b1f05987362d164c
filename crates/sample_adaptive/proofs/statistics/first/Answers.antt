use Rattle.std.proofs.Common.{arith, refl}
use Rattle.sample_adaptive.specs.Statistics.{start_statistics}
use Rattle.sample_adaptive.proofs.Counting.{least_power, start_product, start_whole, start_count}
use Rattle.sample_adaptive.proofs.statistics.first.Goals as goal

pub overflow_sub-result : goal.overflow_sub-result
overflow_sub-result c = rw (start_whole c.args.constant c.requires.constant) (omega (arith, least_power c.args.constant))

pub overflow_mul-result : goal.overflow_mul-result
overflow_mul-result c =
    rw (start_whole c.args.constant c.requires.constant, start_count c.args.gamma_zero c.requires.exponent)
    (omega (arith, start_product c.args.gamma_zero c.args.constant c.requires.exponent c.requires.constant))

pub returns : goal.returns
unfolding start_statistics
returns c = rw (start_whole c.args.constant c.requires.constant, start_count c.args.gamma_zero c.requires.exponent) (record { value = refl })
