use Rattle.std.proofs.Common.{◌*◌, ◌%◌, ◌^◌, ◌∙◌, ap, arith, w32, pos, ◌-ℤ◌, to_z, of_z, bit_and}
use Rattle.std.proofs.lemmas.Int.{ints}
use Rattle.std.proofs.lemmas.Nat.{pow_below}
use Rattle.lanes.proofs.Numbers.{masked_is, mask_is}
use Rattle.lanes.proofs.Ranges.{vector}
use Rattle.lanes.proofs.Steps.{step_by_one}
use Rattle.lanes.specs.Lanes.{lane}
use Rattle.lanes.proofs.wide.masked.Goals as goal

pub overflow_sub-result : goal.overflow_sub-result
overflow_sub-result c = record { sfits = (let e = mask_is c.args.by c.requires in omega (arith, ints, e, pow_below c.args.by 31 c.requires)) }

pub returns : goal.returns
returns c k within =
    let a = vector w32 8 c.args.a _ c.well_formed.0 in
    step_by_one w32 _ c.args.a (of_z w32 (to_z w32 (1 * 2 ^ c.args.by % 4294967296) -ℤ pos 1)) 8 k a.0 within
    ∙ ap (λ z. to_z w32 (bit_and (of_z w32 (lane c.args.a k)) (of_z w32 z))) (mask_is c.args.by c.requires)
    ∙ masked_is (lane c.args.a k) c.args.by (a.1 k) c.requires
