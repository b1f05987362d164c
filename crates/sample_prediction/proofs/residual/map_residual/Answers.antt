use Rattle.std.proofs.Common.{SFits, w32, to_z-of_z, rules}
use Rattle.sample_prediction.proofs.OneSample.{one_sample_lem}
use Rattle.sample_prediction.proofs.residual.map_residual.Goals as goal

pub map_between-requires-clause-v_high : goal.map_between-requires-clause-v_high
map_between-requires-clause-v_high c =
    let fits : SFits w32 c.smax.result = search rules in rw (to_z-of_z c.ranges.s, to_z-of_z fits, c.smax.ensures.value) c.requires.sample.1

pub returns-clause-value : goal.returns-clause-value
returns-clause-value c =
    let low : SFits w32 c.smin.result = search rules in let high : SFits w32 c.smax.result = search rules in rw (c.smin.ensures.value, c.smax.ensures.value)
    at (simp (to_z-of_z low, to_z-of_z high, to_z-of_z c.ranges.stilde, to_z-of_z c.ranges.s) at c.map_between.ensures)

pub returns-clause-bound : goal.returns-clause-bound
returns-clause-bound c =
    rw (returns-clause-value c)
    ((one_sample_lem c.args.kind c.args.stilde (rw c.bits-bits.ensures.value at c.bits-bits.ensures.range) c.requires.scaled).0 c.args.s c.requires.sample)
