use Rattle.std.proofs.Common.{◌≡◌, SFits, w32, to_z-of_z, to_z, of_z, rules, arith, pos, ◌*ℤ◌}
use Rattle.std.proofs.lemmas.Int.{ints}
use Rattle.sample_prediction.proofs.Padding.{error_test}
use Rattle.predict_core.proofs.prediction.learn.Goals as goal

pub returns-clause-value : goal.returns-clause-value
returns-clause-value c us l same =
    let exponent_fits : SFits w32 c.exponent_at-exponent.result = search rules in let scaled_fits : SFits w32 c.args.prediction.now.scaled = search rules in
    let twice : to_z w32 (of_z w32 (pos 2 *ℤ to_z w32 (of_z w32 c.args.sample))) ≡ pos 2 *ℤ c.args.sample = omega (arith, ints) in
    rw (← c.exponent_at-exponent.ensures.value, error_test (pos 2 *ℤ c.args.sample) c.args.prediction.now.scaled)
    (simp (to_z-of_z exponent_fits, to_z-of_z scaled_fits, twice) at c.update.ensures.value us l same)
