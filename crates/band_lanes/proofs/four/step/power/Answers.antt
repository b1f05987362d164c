use Rattle.std.proofs.Common.{◌≡◌, ◌*◌, ◌^◌, ◌≤◌, ◌%◌, ℕ, pos, arith, pow_mono, to_z, w32}
use Rattle.std.proofs.lemmas.Int.{ints, to_z_pos}
use Rattle.std.proofs.lemmas.Nat.{one_shl, pow_below, pow_pos}
use Rattle.band_lanes.proofs.four.step.power.Goals as goal

bit_at : (k : ℕ) → k ≤ 24 → to_z w32 ((1 * 2 ^ k) % 2 ^ 32) ≡ pos (2 ^ k)
bit_at k h = rw (one_shl k 32 (omega arith)) (to_z_pos w32 (2 ^ k) (pow_below k 31 (omega arith)))

pub returns-clause-value : goal.returns-clause-value
returns-clause-value c = bit_at c.args.exponent c.requires

pub returns-clause-bound : goal.returns-clause-bound
returns-clause-bound c =
    let e = bit_at c.args.exponent c.requires in let p : 2 ^ c.args.exponent ≤ 2 ^ 24 = pow_mono c.requires in let q = pow_pos c.args.exponent in
    rw e (omega (arith, ints, q), omega (arith, ints, p))
