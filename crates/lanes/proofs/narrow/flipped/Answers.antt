use Rattle.std.proofs.Common.{◌∙◌, ap, w16, to_z, of_z, bit_xor}
use Rattle.lanes.proofs.Numbers.{not_flipped, flipped_is}
use Rattle.lanes.proofs.Ranges.{vector}
use Rattle.lanes.proofs.Steps.{step_of_two}
use Rattle.lanes.specs.Lanes.{lane}
use Rattle.lanes.proofs.narrow.flipped.Goals as goal

pub returns-clause-kept : goal.returns-clause-kept
returns-clause-kept c k within zero =
    let a = vector w16 16 c.args.a _ c.well_formed.0 in let m = vector w16 16 c.args.mask _ c.well_formed.1.0 in
    step_of_two w16 _ c.args.a c.args.mask 16 k a.0 m.0 within
    ∙ ap (λ x. to_z w16 (bit_xor (of_z w16 (lane c.args.a k)) (of_z w16 x))) zero ∙ not_flipped (lane c.args.a k) (a.1 k)

pub returns-clause-turned : goal.returns-clause-turned
returns-clause-turned c k within ones =
    let a = vector w16 16 c.args.a _ c.well_formed.0 in let m = vector w16 16 c.args.mask _ c.well_formed.1.0 in
    step_of_two w16 _ c.args.a c.args.mask 16 k a.0 m.0 within
    ∙ ap (λ x. to_z w16 (bit_xor (of_z w16 (lane c.args.a k)) (of_z w16 x))) ones ∙ flipped_is (lane c.args.a k) (a.1 k)
