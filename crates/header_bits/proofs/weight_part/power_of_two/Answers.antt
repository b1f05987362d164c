use Rattle.std.proofs.Common.{◌≡◌, ◌*◌, ◌%◌, ◌^◌, ◌<◌, ◌≤◌, pos, w32, to_z, arith, ◌∙◌, ap}
use Rattle.std.proofs.lemmas.Int.{ints, to_z_pos}
use Rattle.std.proofs.lemmas.Nat.{one_shl, pow_pos}
use Rattle.std.proofs.Math.Nat.{pow-le-pow_right}
use Rattle.header_bits.proofs.weight_part.power_of_two.Goals as goal

is_power : (bits : _) → bits ≤ 22 → to_z w32 (1 * 2 ^ bits % 4294967296) ≡ pos (2 ^ bits)
is_power bits le =
    let top : 2 ^ bits ≤ 2 ^ 22 = pow-le-pow_right (omega arith) le in
    let small : 2 ^ bits < 2147483648 = omega (arith, top) in
    ap (to_z w32) (one_shl bits 32 (omega (arith, le))) ∙ to_z_pos w32 (2 ^ bits) small

pub returns-clause-value : goal.returns-clause-value
returns-clause-value c = is_power c.args.bits c.requires

pub returns-clause-range : goal.returns-clause-range
returns-clause-range c =
    let top : 2 ^ c.args.bits ≤ 2 ^ 22 = pow-le-pow_right (omega arith) c.requires in
    rw (is_power c.args.bits c.requires) (omega (arith, ints, pow_pos c.args.bits), omega (arith, ints, top))
