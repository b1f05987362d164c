use Rattle.std.proofs.Common.{◌≡◌, ◌^◌, ◌≤◌, ◌*◌, ◌%◌, pos, to_z, w32, arith, pow_mono}
use Rattle.std.proofs.lemmas.Int.{ints, to_z_pos}
use Rattle.sample_prediction.proofs.Moves.{bit_in_word, halving_is}
use Rattle.sample_prediction.proofs.weights.right_shift.Goals as goal

pub invariant_of-result : goal.invariant_of-result
invariant_of-result c =
    let few = c.requires in let power : 2 ^ c.args.by ≤ 2 ^ 21 = pow_mono few in
    let half : to_z w32 (1 * 2 ^ c.args.by % 2 ^ 32) ≡ pos (2 ^ c.args.by) = bit_in_word c.args.by (omega (arith, few)) in
    let plain : to_z w32 c.args.by ≡ pos c.args.by = to_z_pos w32 c.args.by (omega (arith, few)) in
    record {
      left_in = omega arith;
      rounding_in = (rw half (omega (arith, ints)), rw half (omega (arith, ints, power)));
      right_in = omega (arith, few);
      steps = λ a. rw (half, plain) (halving_is a c.args.by);
    }

pub returns-clause-exponent : goal.returns-clause-exponent
returns-clause-exponent c = to_z_pos w32 c.args.by (omega (arith, c.requires))
