use Rattle.std.proofs.Common.{◌∙◌, ap, w32, to_z, of_z, bit_xor}
use Rattle.lanes.proofs.Numbers.{not_flipped_long, flipped_long_is}
use Rattle.lanes.proofs.Ranges.{vector}
use Rattle.lanes.proofs.Steps.{step_of_two}
use Rattle.lanes.specs.Lanes.{lane}
use Rattle.lanes.proofs.four.flipped.Goals as goal

pub returns-clause-kept : goal.returns-clause-kept
returns-clause-kept c k within zero =
    let a = vector w32 4 c.args.a _ c.well_formed.0 in let m = vector w32 4 c.args.mask _ c.well_formed.1.0 in
    step_of_two w32 _ c.args.a c.args.mask 4 k a.0 m.0 within
    ∙ ap (λ x. to_z w32 (bit_xor (of_z w32 (lane c.args.a k)) (of_z w32 x))) zero ∙ not_flipped_long (lane c.args.a k) (a.1 k)

pub returns-clause-turned : goal.returns-clause-turned
returns-clause-turned c k within ones =
    let a = vector w32 4 c.args.a _ c.well_formed.0 in let m = vector w32 4 c.args.mask _ c.well_formed.1.0 in
    step_of_two w32 _ c.args.a c.args.mask 4 k a.0 m.0 within
    ∙ ap (λ x. to_z w32 (bit_xor (of_z w32 (lane c.args.a k)) (of_z w32 x))) ones ∙ flipped_long_is (lane c.args.a k) (a.1 k)
