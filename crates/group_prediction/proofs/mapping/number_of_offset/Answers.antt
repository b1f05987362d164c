use Rattle.std.proofs.Common.{◌≡◌, pos, SFits, w16, to_z, to_z-of_z, rules, arith, ap, ◌∙◌, unsigned_abs}
use Rattle.std.proofs.lemmas.Int.{ints}
use Rattle.sample_prediction.specs.Residual.{mapped_between}
use Rattle.predict_core.specs.Rooms.{offset_number}
use Rattle.group_prediction.proofs.mapping.number_of_offset.Goals as goal

pub returns-clause-value : goal.returns-clause-value
unfolding offset_number
returns-clause-value c =
    let scaled_fits : SFits w16 c.scaled_offset.result = search rules in let number_fits : SFits w16 c.number_at.result = search rules in
    let l = c.requires.offset_in in let m = c.requires.greatest_in in
    let offset : to_z w16 c.args.offset ≡ pos c.args.offset = omega (arith, ints, l, m.1) in
    let e = simp (to_z-of_z c.ranges.greatest, to_z-of_z scaled_fits, offset) at c.number_at.ensures.value in
    let d = simp (to_z-of_z c.ranges.greatest, to_z-of_z c.ranges.part, to_z-of_z c.ranges.sum) at c.scaled_offset.ensures.value in
    ap unsigned_abs (to_z-of_z number_fits ∙ e) ∙ ap (λ t. mapped_between (pos 0) c.args.greatest t (pos c.args.offset)) d
