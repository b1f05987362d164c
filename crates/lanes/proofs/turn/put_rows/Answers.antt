use Rattle.std.proofs.Common.{◌+◌, ◌∙◌, [], ap, arith, w16}
use Rattle.std.proofs.lemmas.Simd.{get_or-put_chunk_at}
use Rattle.lanes.proofs.Ranges.{vector}
use Rattle.lanes.proofs.Steps.{kept}
use Rattle.lanes.proofs.Turning.{put_eight, each_row}
use Rattle.lanes.specs.Lanes.{lane, place}
use Rattle.lanes.specs.Turning.{rows_of}
use Rattle.lanes.proofs.turn.put_rows.Goals as goal

pub returns-clause-written : goal.returns-clause-written
returns-clause-written c j b j-in =
    let s = c.args.square in let o = c.well_formed.0.1.1 in
    ap (λ l. place l (c.args.at + j) b) (put_eight c.args.at c.args.rows.now _ _ _ _ _ _ _ _ (omega (arith, c.told-rows)))
    ∙ ap (λ l. lane l b) (get_or-put_chunk_at c.args.at c.args.rows.now _ j [] j-in (omega (arith, c.told-rows)))
    ∙ each_row (λ j. place (rows_of s) j b) b _ _ _ _ _ _ _ _
    (ap (λ l. lane l b) c.put_row.ensures ∙ kept w16 s.a b (vector w16 8 s.a _ o.0).1)
    (ap (λ l. lane l b) c.put_row-2.ensures ∙ kept w16 s.b b (vector w16 8 s.b _ o.1.0).1)
    (ap (λ l. lane l b) c.put_row-3.ensures ∙ kept w16 s.c b (vector w16 8 s.c _ o.1.1.0).1)
    (ap (λ l. lane l b) c.put_row-4.ensures ∙ kept w16 s.d b (vector w16 8 s.d _ o.1.1.1.0).1)
    (ap (λ l. lane l b) c.put_row-5.ensures ∙ kept w16 s.e b (vector w16 8 s.e _ o.1.1.1.1.0).1)
    (ap (λ l. lane l b) c.put_row-6.ensures ∙ kept w16 s.f b (vector w16 8 s.f _ o.1.1.1.1.1.0).1)
    (ap (λ l. lane l b) c.put_row-7.ensures ∙ kept w16 s.g b (vector w16 8 s.g _ o.1.1.1.1.1.1.0).1)
    (ap (λ l. lane l b) c.put_row-8.ensures ∙ kept w16 s.h b (vector w16 8 s.h _ o.1.1.1.1.1.1.1.0).1)
    j j-in
