use Rattle.std.proofs.Common.{◌*◌, ◌%◌, ◌^◌, ◌∙◌, w64}
use Rattle.std.proofs.Math.Nat.{mod-eq_of_lt}
use Rattle.lanes.proofs.Plain.{plain, plain_step_by}
use Rattle.word_lanes.proofs.eight_words.long_raised.Goals as goal

pub returns : goal.returns
returns c k lt fits =
    let a = plain w64 2 c.args.a _ c.well_formed.0 in
    rw c.from.ensures (plain_step_by (λ x y. x * 2 ^ y % 18446744073709551616) c.args.a c.args.by 2 k a.0 lt ∙ mod-eq_of_lt fits)
