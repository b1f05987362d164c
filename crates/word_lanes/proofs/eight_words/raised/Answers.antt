use Rattle.std.proofs.Common.{◌*◌, ◌%◌, ◌^◌, ◌∙◌, w32}
use Rattle.std.proofs.Math.Nat.{mod-eq_of_lt}
use Rattle.lanes.proofs.Plain.{plain, plain_step_by}
use Rattle.word_lanes.proofs.eight_words.raised.Goals as goal

pub returns : goal.returns
returns c k lt fits =
    let a = plain w32 4 c.args.a _ c.well_formed.0 in
    plain_step_by (λ x y. x * 2 ^ y % 4294967296) c.args.a c.args.by 4 k a.0 lt ∙ mod-eq_of_lt fits
