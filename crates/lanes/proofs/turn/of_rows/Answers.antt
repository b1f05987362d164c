use Rattle.std.proofs.Common.{◌+◌, ◌≡◌, ◌∙◌, ap, arith, w16}
use Rattle.lanes.proofs.Ranges.{vector}
use Rattle.lanes.proofs.Steps.{kept}
use Rattle.lanes.proofs.Turning.{each_row}
use Rattle.lanes.specs.Lanes.{lane, place}
use Rattle.lanes.proofs.turn.of_rows.Goals as goal

pub returns : goal.returns
returns c j b j-in =
    let first : c.args.at ≡ c.args.at + 0 = omega arith in
    each_row (λ j. place c.args.rows.now (c.args.at + j) b) b _ _ _ _ _ _ _ _
    (kept w16 c.numbers.result b (vector w16 8 _ _ c.numbers.type_inv).1 ∙ ap (λ l. lane l b) c.numbers.ensures ∙ ap (λ i. place c.args.rows.now i b) first)
    (kept w16 c.numbers-2.result b (vector w16 8 _ _ c.numbers-2.type_inv).1 ∙ ap (λ l. lane l b) c.numbers-2.ensures)
    (kept w16 c.numbers-3.result b (vector w16 8 _ _ c.numbers-3.type_inv).1 ∙ ap (λ l. lane l b) c.numbers-3.ensures)
    (kept w16 c.numbers-4.result b (vector w16 8 _ _ c.numbers-4.type_inv).1 ∙ ap (λ l. lane l b) c.numbers-4.ensures)
    (kept w16 c.numbers-5.result b (vector w16 8 _ _ c.numbers-5.type_inv).1 ∙ ap (λ l. lane l b) c.numbers-5.ensures)
    (kept w16 c.numbers-6.result b (vector w16 8 _ _ c.numbers-6.type_inv).1 ∙ ap (λ l. lane l b) c.numbers-6.ensures)
    (kept w16 c.numbers-7.result b (vector w16 8 _ _ c.numbers-7.type_inv).1 ∙ ap (λ l. lane l b) c.numbers-7.ensures)
    (kept w16 c.numbers-8.result b (vector w16 8 _ _ c.numbers-8.type_inv).1 ∙ ap (λ l. lane l b) c.numbers-8.ensures)
    j j-in
