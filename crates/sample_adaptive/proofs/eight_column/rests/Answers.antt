use Rattle.std.proofs.Common.{◌≡◌, ◌+◌, ◌-◌, ◌%◌, ◌^◌, ◌<◌, replicate, refl, ap, ◌∙◌, arith, bit_and, w32}
use Rattle.std.proofs.lemmas.Nat.{and_mask, pow_pos}
use Rattle.lanes.specs.Lanes.{number}
use Rattle.lanes.proofs.Plain.{plain, plain_step, plain_step_by, length-step}
use Rattle.sample_adaptive.proofs.eight_column.rests.Goals as goal

pub returns : goal.returns
returns c k n lt is =
    let a = plain w32 8 c.args.a _ c.well_formed.0 in let p = plain w32 8 c.args.powers _ c.well_formed.1.0 in
    let below : 2 ^ n < 4294967296 = rw is at (p.1 k).fits in
    let some = pow_pos n in
    let mask : (number c.args.powers k + 4294967295) % 4294967296 ≡ 2 ^ n - 1 = omega (arith, is, below, some) in
    plain_step _ c.args.a _ 8 k a.0 (length-step _ c.args.powers (replicate 8 1) 8 p.0 refl) lt
    ∙ ap (bit_and (number c.args.a k)) (plain_step_by _ c.args.powers 1 8 k p.0 lt ∙ mask) ∙ and_mask (number c.args.a k) n
