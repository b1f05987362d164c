use Rattle.std.proofs.Common.{◌+◌, ◌∙◌, [], ap, arith, w32}
use Rattle.std.proofs.lemmas.Simd.{get_or-put_chunk_at}
use Rattle.lanes.proofs.Ranges.{vector}
use Rattle.lanes.proofs.Steps.{kept}
use Rattle.lanes.proofs.TurningFour.{put_rows_of_four, each_of_four}
use Rattle.lanes.specs.Lanes.{lane, place}
use Rattle.lanes.specs.TurningFour.{four_rows}
use Rattle.lanes.proofs.turn_four.put_four.Goals as goal

pub returns-clause-written : goal.returns-clause-written
returns-clause-written c j b j-in =
    let s = c.args.square in let o = c.well_formed.0.1.1 in
    ap (λ l. place l (c.args.at + j) b) (put_rows_of_four c.args.at c.args.rows.now _ _ _ _ (omega (arith, c.told-rows)))
    ∙ ap (λ l. lane l b) (get_or-put_chunk_at c.args.at c.args.rows.now _ j [] j-in (omega (arith, c.told-rows)))
    ∙ each_of_four (λ j. place (four_rows s) j b) b _ _ _ _
    (ap (λ l. lane l b) c.put.ensures ∙ kept w32 s.a b (vector w32 4 s.a _ o.0).1)
    (ap (λ l. lane l b) c.put-2.ensures ∙ kept w32 s.b b (vector w32 4 s.b _ o.1.0).1)
    (ap (λ l. lane l b) c.put-3.ensures ∙ kept w32 s.c b (vector w32 4 s.c _ o.1.1.0).1)
    (ap (λ l. lane l b) c.put-4.ensures ∙ kept w32 s.d b (vector w32 4 s.d _ o.1.1.1.0).1)
    j j-in
