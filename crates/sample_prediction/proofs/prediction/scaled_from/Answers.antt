use Rattle.std.proofs.Common.{◌≡◌, ◌≤ℤ◌, ◌+ℤ◌, ◌*ℤ◌, pos, SFits, w64, w32, to_z-of_z, to_z, of_z, arith, rules}
use Rattle.std.proofs.lemmas.Int.{ints, fits_signed_from_abs}
use Rattle.sample_prediction.proofs.prediction.scaled_from.Goals as goal
use Rattle.sample_prediction.proofs.prediction.scaled_from.Goals.{After-clamp}

low_is : (c : After-clamp) → (pos 2 *ℤ c.args.low) ≤ℤ c.clamp.result
low_is c = let h = c.clamp.ensures.lower_bound in omega (arith, ints)

high_is : (c : After-clamp) → c.clamp.result ≤ℤ (pos 2 *ℤ c.args.high +ℤ pos 1)
high_is c = let h = c.clamp.ensures.upper_bound in omega (arith, ints)

narrow : (c : After-clamp) → SFits w32 c.clamp.result
narrow c = let a = low_is c in let b = high_is c in fits_signed_from_abs w32 c.clamp.result (omega (arith, ints))

pub returns-clause-value : goal.returns-clause-value
returns-clause-value c =
    let wide : SFits w64 c.clamp.result = search rules in let center_wide : SFits w64 c.center_of-center.result = search rules in
    let a : to_z w64 (of_z w64 (to_z w32 (of_z w32 (pos 2 *ℤ to_z w32 (of_z w32 c.args.low))))) ≡ pos 2 *ℤ c.args.low = omega (arith, ints) in
    let b : to_z w64 (of_z w64 c.center_of-center.result) ≡ c.args.upper +ℤ pos 2 *ℤ c.args.middle +ℤ pos 1 = omega (arith, ints) in
    let d : to_z w64 (of_z w64 (to_z w32 (of_z w32 (to_z w32 (of_z w32 (pos 2 *ℤ to_z w32 (of_z w32 c.args.high))) +ℤ pos 1))))
    ≡ pos 2 *ℤ c.args.high +ℤ pos 1 = omega (arith, ints) in
    rw (to_z-of_z wide, to_z-of_z (narrow (goal.at.returns-clause-value c).After-clamp)) (simp (a, b, d) at c.clamp.ensures.value)

pub returns-clause-low_end : goal.returns-clause-low_end
returns-clause-low_end c =
    let wide : SFits w64 c.clamp.result = search rules in let d = (goal.at.returns-clause-low_end c).After-clamp in
    rw (to_z-of_z wide, to_z-of_z (narrow d)) (low_is d)

pub returns-clause-high_end : goal.returns-clause-high_end
returns-clause-high_end c =
    let wide : SFits w64 c.clamp.result = search rules in let d = (goal.at.returns-clause-high_end c).After-clamp in
    rw (to_z-of_z wide, to_z-of_z (narrow d)) (high_is d)
