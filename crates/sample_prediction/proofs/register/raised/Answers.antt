use Rattle.std.proofs.Common.{◌≤◌, ◌^◌, unsigned_abs, to_z-of_z, arith, refl, sym, subst}
use Rattle.sample_prediction.proofs.Raising.{bit_at_place, raised_bound, SFits-raised_up}
use Rattle.sample_prediction.proofs.register.raised.Goals as goal

pub overflow_mul-result : goal.overflow_mul-result
overflow_mul-result c =
    rw (bit_at_place c.args.omega (omega arith), to_z-of_z c.ranges.distance)
    (SFits-raised_up c.args.omega c.args.distance c.requires.omega_in c.requires.distance_in)

pub returns-clause-value : goal.returns-clause-value
returns-clause-value c =
    let fits = SFits-raised_up c.args.omega c.args.distance c.requires.omega_in c.requires.distance_in in
    rw (bit_at_place c.args.omega (omega arith), to_z-of_z c.ranges.distance, to_z-of_z fits) refl

pub returns-clause-bound : goal.returns-clause-bound
returns-clause-bound c =
    subst (λ d. unsigned_abs d ≤ 2 ^ 37) (sym (returns-clause-value c))
    (raised_bound c.args.omega c.args.distance c.requires.omega_in c.requires.distance_in)
