use Rattle.std.proofs.Common.{◌+◌, ◌*◌, ◌∙◌, w16}
use Rattle.lanes.proofs.Ranges.{vector}
use Rattle.lanes.proofs.Steps.{kept}
use Rattle.lanes.proofs.Turning.{each_row}
use Rattle.lanes.specs.Lanes.{place}
use Rattle.lanes.proofs.turn.of_lines.Goals as goal

pub returns : goal.returns
returns c b j b-in j-in =
    each_row (λ b. place c.args.lines.now b (8 * c.args.k + j)) j _ _ _ _ _ _ _ _
    (kept w16 c.part.result j (vector w16 8 _ _ c.part.type_inv).1 ∙ c.part.ensures j j-in)
    (kept w16 c.part-2.result j (vector w16 8 _ _ c.part-2.type_inv).1 ∙ c.part-2.ensures j j-in)
    (kept w16 c.part-3.result j (vector w16 8 _ _ c.part-3.type_inv).1 ∙ c.part-3.ensures j j-in)
    (kept w16 c.part-4.result j (vector w16 8 _ _ c.part-4.type_inv).1 ∙ c.part-4.ensures j j-in)
    (kept w16 c.part-5.result j (vector w16 8 _ _ c.part-5.type_inv).1 ∙ c.part-5.ensures j j-in)
    (kept w16 c.part-6.result j (vector w16 8 _ _ c.part-6.type_inv).1 ∙ c.part-6.ensures j j-in)
    (kept w16 c.part-7.result j (vector w16 8 _ _ c.part-7.type_inv).1 ∙ c.part-7.ensures j j-in)
    (kept w16 c.part-8.result j (vector w16 8 _ _ c.part-8.type_inv).1 ∙ c.part-8.ensures j j-in)
    b b-in
