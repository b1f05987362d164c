use Rattle.std.proofs.Common.{◌≡◌, ◌+◌, ◌^◌, ◌≤◌, ◌+ℤ◌, ◌-ℤ◌, ℕ, ℤ, pos, SFits, to_z-of_z, w32, arith, rules, pow_pos}
use Rattle.std.proofs.lemmas.Int.{ints, fits_signed_from_abs}
use Rattle.sample_prediction.specs.Arithmetic.{clip}
use Rattle.sample_prediction.proofs.Moves.{bit_in_word, limit_within, held_is, held_within, clipped_is, clipped_low, clipped_high}
use Rattle.sample_prediction.proofs.weights.clip_weight.Goals as goal
use Rattle.sample_prediction.proofs.weights.clip_weight.Goals.{Start, After-max}

-- the least weight, as the code computes it
abbrev least : ℕ → ℤ
least omega = pos 0 -ℤ pos (2 ^ (omega + 2))

-- the greatest weight, as the code computes it
abbrev greatest : ℕ → ℤ
greatest omega = pos (2 ^ (omega + 2)) -ℤ pos 1

-- the least and the greatest weight fit a word
bounds_fit : (c : Start) → SFits w32 (least c.args.omega) × SFits w32 (greatest c.args.omega)
bounds_fit c =
    let p = limit_within c.args.omega c.requires.omega_in in
    (fits_signed_from_abs w32 (least c.args.omega) (omega (arith, ints)), fits_signed_from_abs w32 (greatest c.args.omega) (omega (arith, ints)))

pub overflow_sub-least : goal.overflow_sub-least
overflow_sub-least c = rw (bit_in_word (c.args.omega + 2) (omega arith)) (bounds_fit (goal.at.overflow_sub-least c).Start).0

pub overflow_sub-greatest : goal.overflow_sub-greatest
overflow_sub-greatest c = rw (bit_in_word (c.args.omega + 2) (omega arith)) (bounds_fit (goal.at.overflow_sub-greatest c).Start).1

-- the weight between its bounds, as the code computes them
clipped : (c : After-max) → c.max.result ≡ clip (c.args.weight +ℤ c.args.step) (least c.args.omega) (greatest c.args.omega)
clipped c =
    let bounds = bounds_fit (goal.at.After-max c).Start in let fits : SFits w32 c.min.result = search rules in
    let sum = fits_signed_from_abs w32 (c.args.weight +ℤ c.args.step) (omega (arith, ints)) in let bit = bit_in_word (c.args.omega + 2) (omega arith) in
    clipped_is (c.args.weight +ℤ c.args.step) (least c.args.omega) (greatest c.args.omega) c.min.result c.max.result
    (simp (bit, to_z-of_z c.ranges.weight, to_z-of_z c.ranges.step, to_z-of_z sum, to_z-of_z bounds.1) at c.min.ensures.value)
    (simp (bit, to_z-of_z fits, to_z-of_z bounds.0) at c.max.ensures.value)

pub returns-clause-value : goal.returns-clause-value
returns-clause-value c =
    let fits : SFits w32 c.max.result = search rules in
    rw (to_z-of_z fits) (held_is c.args.omega c.args.weight c.args.step c.max.result (clipped (goal.at.returns-clause-value c).After-max))

pub returns-clause-bound : goal.returns-clause-bound
returns-clause-bound c =
    let fits : SFits w32 c.max.result = search rules in let q : 1 ≤ 2 ^ (c.args.omega + 2) = pow_pos (c.args.omega + 2) in
    let e = clipped (goal.at.returns-clause-bound c).After-max in let sum = c.args.weight +ℤ c.args.step in let high = greatest c.args.omega in
    rw (to_z-of_z fits) (held_within _ _ q (clipped_low sum (least c.args.omega) high _ e) (clipped_high sum _ high _ (omega (arith, ints, q)) e))
