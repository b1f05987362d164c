use Rattle.std.proofs.Common.{int_lt, pos, to_z-of_z}
use Rattle.sample_prediction.proofs.SignMasks.{chosen_is, either_fits}
use Rattle.sample_prediction.proofs.weights.chosen.Goals as goal

pub overflow_add-result : goal.overflow_add-result
overflow_add-result c =
    let t = c.requires.sign_mask_in in let a = c.args.raised in let b = c.args.lowered in let l = c.requires.raised_in in let m = c.requires.lowered_in in
    rw (to_z-of_z c.ranges.raised, to_z-of_z c.ranges.lowered, chosen_is c.args.sign_mask a b t.0 t.1 l m)
    (either_fits (int_lt c.args.sign_mask (pos 0)) a b l m)

pub returns : goal.returns
returns c =
    let t = c.requires.sign_mask_in in let a = c.args.raised in let b = c.args.lowered in let l = c.requires.raised_in in let m = c.requires.lowered_in in
    rw (to_z-of_z c.ranges.raised, to_z-of_z c.ranges.lowered, chosen_is c.args.sign_mask a b t.0 t.1 l m)
    (to_z-of_z (either_fits (int_lt c.args.sign_mask (pos 0)) a b l m))
