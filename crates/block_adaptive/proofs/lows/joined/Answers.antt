use Rattle.std.proofs.Common.{◌≡◌, ◌*◌, ◌%◌, ◌^◌, arith, pow_pos, refl}
use Rattle.std.proofs.lemmas.Nat.{one_shl, and_mask}
use Rattle.std.proofs.Math.Nat.{mod-lt}
use Rattle.block_adaptive.proofs.lows.joined.Goals as goal
use Rattle.block_adaptive.proofs.Powers.{whole_small}

pub returns : goal.returns
returns c =
    let one : 1 * 2 ^ c.args.k % 18446744073709551616 ≡ 2 ^ c.args.k = one_shl c.args.k 64 (omega (arith, c.requires.depth)) in
    let small = whole_small c.args.quotient c.args.k (c.args.number % 2 ^ c.args.k) 65535 (omega arith) c.requires.within (mod-lt _ (pow_pos _)) in
    rw (one, and_mask, small.0) refl
