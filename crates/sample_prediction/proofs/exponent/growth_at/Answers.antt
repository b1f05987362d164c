use Rattle.std.proofs.Common.{◌≡◌, ◌+ℤ◌, SFits, w32, w64, to_z, of_z, to_z-of_z, arith, rules}
use Rattle.std.proofs.lemmas.Int.{ints, fits_signed_from_abs}
use Rattle.sample_prediction.proofs.Scaled.{growth_is}
use Rattle.sample_prediction.proofs.exponent.growth_at.Goals as goal

pub returns-clause-value : goal.returns-clause-value
returns-clause-value c =
    let wide : SFits w64 c.clamp.result = search rules in
    let narrow : SFits w32 c.clamp.result = fits_signed_from_abs w32 c.clamp.result (omega (arith, ints)) in
    let a : to_z w64 (of_z w64 (to_z w32 (of_z w32 c.args.predictor.now.vmin))) ≡ c.args.predictor.now.vmin = omega (arith, ints) in
    let b : to_z w64 (of_z w64 (to_z w32 (of_z w32 c.args.predictor.now.vmax))) ≡ c.args.predictor.now.vmax = omega (arith, ints) in
    let d : to_z w64 (of_z w64 (c.args.predictor.now.vmin +ℤ to_z w64 (of_z w64 c.intervals_at-intervals.result)))
    ≡ c.args.predictor.now.vmin +ℤ c.intervals_at-intervals.result = omega (arith, ints) in
    rw (to_z-of_z wide, to_z-of_z narrow)
    (growth_is c.args.predictor.now c.args.columns c.args.t _ _ c.intervals_at-intervals.ensures.value (simp (a, b, d) at c.clamp.ensures.value))
