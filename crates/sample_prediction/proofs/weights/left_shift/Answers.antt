use Rattle.std.proofs.Common.{◌≡◌, ◌≤◌, ◌-ℤ◌, ℕ, pos, negsuc, to_z, of_z, SFits, w32, to_z-of_z, arith}
use Rattle.std.proofs.lemmas.Int.{ints, fits_signed_from_abs, to_z_pos}
use Rattle.sample_prediction.proofs.Moves.{raising_is}
use Rattle.sample_prediction.proofs.weights.left_shift.Goals as goal

-- the exponent, as the code computes it
exponent_is : (by : ℕ) → by ≤ 22 → to_z w32 (of_z w32 (negsuc 0 -ℤ to_z w32 by)) ≡ negsuc by
exponent_is by few =
    let plain : to_z w32 by ≡ pos by = to_z_pos w32 by (omega (arith, few)) in
    let is : negsuc 0 -ℤ pos by ≡ negsuc by = omega (arith, ints) in
    let fits : SFits w32 (negsuc by) = fits_signed_from_abs w32 (negsuc by) (omega (arith, few)) in rw (plain, is) (to_z-of_z fits)

pub invariant_of-result : goal.invariant_of-result
invariant_of-result c = record {
  left_in = c.requires;
  rounding_in = (omega (arith, ints), omega (arith, ints));
  right_in = omega arith;
  steps = λ a. rw (exponent_is c.args.by c.requires) (raising_is a c.args.by);
}

pub returns-clause-exponent : goal.returns-clause-exponent
returns-clause-exponent c = exponent_is c.args.by c.requires
