use Rattle.std.proofs.Common.{to_z-of_z, ◌^◌, rules}
use Rattle.sample_prediction.proofs.Scaled.{halved_bound, halved_shrinks}
use Rattle.sample_prediction.proofs.Raising.{SFits-div}
use Rattle.sample_prediction.proofs.register.floor_shift.Goals as goal

pub returns-clause-bound : goal.returns-clause-bound
returns-clause-bound c h = rw (to_z-of_z c.ranges.value, to_z-of_z (SFits-div c.args.value (2 ^ c.args.by) c.ranges.value)) (halved_bound _ _ c.ranges.value h)

pub returns-clause-shrinks : goal.returns-clause-shrinks
returns-clause-shrinks c =
    rw (to_z-of_z c.ranges.value, to_z-of_z (SFits-div c.args.value (2 ^ c.args.by) c.ranges.value)) (halved_shrinks c.args.value (2 ^ c.args.by))

pub returns-clause-value : goal.returns-clause-value
returns-clause-value c = search rules
