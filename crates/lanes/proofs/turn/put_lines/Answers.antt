use Rattle.std.proofs.Common.{◌+◌, ◌∙◌, ap, w16}
use Rattle.lanes.proofs.Ranges.{vector}
use Rattle.lanes.proofs.Steps.{kept}
use Rattle.lanes.proofs.Turning.{set_all, each_row}
use Rattle.lanes.specs.Lanes.{place}
use Rattle.lanes.specs.Turning.{rows_of}
use Rattle.lanes.proofs.turn.put_lines.Goals as goal

pub returns-clause-written : goal.returns-clause-written
returns-clause-written c b j b-in j-in =
    let s = c.args.square in let o = c.well_formed.0.1.1 in
    ap (λ l. place l b (c.args.at + j)) (set_all c.args.lines.now _ _ _ _ _ _ _ _ c.told-lines)
    ∙ each_row (λ b. place (rows_of s) b j) (c.args.at + j) _ _ _ _ _ _ _ _
    (c.put_part.ensures.written j j-in ∙ kept w16 s.a j (vector w16 8 s.a _ o.0).1)
    (c.put_part-2.ensures.written j j-in ∙ kept w16 s.b j (vector w16 8 s.b _ o.1.0).1)
    (c.put_part-3.ensures.written j j-in ∙ kept w16 s.c j (vector w16 8 s.c _ o.1.1.0).1)
    (c.put_part-4.ensures.written j j-in ∙ kept w16 s.d j (vector w16 8 s.d _ o.1.1.1.0).1)
    (c.put_part-5.ensures.written j j-in ∙ kept w16 s.e j (vector w16 8 s.e _ o.1.1.1.1.0).1)
    (c.put_part-6.ensures.written j j-in ∙ kept w16 s.f j (vector w16 8 s.f _ o.1.1.1.1.1.0).1)
    (c.put_part-7.ensures.written j j-in ∙ kept w16 s.g j (vector w16 8 s.g _ o.1.1.1.1.1.1.0).1)
    (c.put_part-8.ensures.written j j-in ∙ kept w16 s.h j (vector w16 8 s.h _ o.1.1.1.1.1.1.1.0).1)
    b b-in
