use Rattle.std.proofs.Common.{◌≤◌, ◌^◌, ◌+ℤ◌, ◌*ℤ◌, unsigned_abs, pos, SFits, w32, to_z-of_z, arith, refl, sym, subst}
use Rattle.std.proofs.lemmas.Int.{ints, fits_signed_from_abs}
use Rattle.sample_prediction.specs.Arithmetic.{floor_div}
use Rattle.sample_prediction.proofs.Moves.{bit_in_word, raised_within, half_added, stepped_within, SFits-26, SFits-27}
use Rattle.sample_prediction.proofs.weights.stepped.Goals as goal
use Rattle.sample_prediction.proofs.weights.stepped.Goals.{Start}

pub overflow_mul-result : goal.overflow_mul-result
overflow_mul-result c =
    let up = c.args.shift.left_in in rw (to_z-of_z c.ranges.size, bit_in_word c.args.shift.left (omega (arith, up)))
    (SFits-26 (c.args.size *ℤ pos (2 ^ c.args.shift.left)) (raised_within _ _ (omega (arith, up)) c.requires))

module _ (c : Start) where
  half_fits : SFits w32 c.args.shift.rounding
  half_fits = let h = c.args.shift.rounding_in in fits_signed_from_abs w32 c.args.shift.rounding (omega (arith, ints, h.0, h.1))

  product_fits : SFits w32 (c.args.size *ℤ pos (2 ^ c.args.shift.left))
  product_fits = let up = c.args.shift.left_in in SFits-26 _ (raised_within _ c.args.shift.left (omega (arith, up)) c.requires)

  within : unsigned_abs (c.args.size *ℤ pos (2 ^ c.args.shift.left) +ℤ c.args.shift.rounding) ≤ 2 ^ 27
  within = let f = c.args.shift in half_added c.args.size f.rounding f.left f.left_in c.requires f.rounding_in.0 f.rounding_in.1

  small : unsigned_abs (floor_div (c.args.size *ℤ pos (2 ^ c.args.shift.left) +ℤ c.args.shift.rounding) (2 ^ c.args.shift.right)) ≤ 2 ^ 27
  small = stepped_within _ (2 ^ c.args.shift.right) within

pub overflow_add-result : goal.overflow_add-result
overflow_add-result c =
    let s = (goal.at.overflow_add-result c).Start in let up = c.args.shift.left_in in
    rw (to_z-of_z c.ranges.size, bit_in_word c.args.shift.left (omega (arith, up)), to_z-of_z (product_fits s), to_z-of_z (half_fits s)) (SFits-27 _ (within s))

pub returns-clause-value : goal.returns-clause-value
returns-clause-value c =
    let s = (goal.at.returns-clause-value c).Start in let up = c.args.shift.left_in in
    let sum = SFits-27 (c.args.size *ℤ pos (2 ^ c.args.shift.left) +ℤ c.args.shift.rounding) (within s) in
    let fits = SFits-27 (floor_div (c.args.size *ℤ pos (2 ^ c.args.shift.left) +ℤ c.args.shift.rounding) (2 ^ c.args.shift.right)) (small s) in
    rw (to_z-of_z c.ranges.size, bit_in_word c.args.shift.left (omega (arith, up)), to_z-of_z (product_fits s), to_z-of_z (half_fits s))
    (rw (to_z-of_z sum, to_z-of_z fits) refl)

pub returns-clause-bound : goal.returns-clause-bound
returns-clause-bound c = subst (λ v. unsigned_abs v ≤ 2 ^ 27) (sym (returns-clause-value c)) (small (goal.at.returns-clause-bound c).Start)
