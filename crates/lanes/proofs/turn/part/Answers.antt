use Rattle.std.proofs.Common.{◌*◌, ◌∙◌, ap, [], pos, get_or, w16, arith}
use Rattle.std.proofs.lemmas.Simd.{get_or-chunk}
use Rattle.lanes.proofs.Ranges.{vector}
use Rattle.lanes.proofs.Steps.{kept}
use Rattle.lanes.proofs.Turning.{chunk_of_eight}
use Rattle.lanes.specs.Lanes.{lane}
use Rattle.lanes.proofs.turn.part.Goals as goal

pub returns : goal.returns
returns c j within =
    let r = vector w16 8 c.numbers.result _ c.numbers.type_inv in
    let e = c.numbers.ensures ∙ ap (λ l. get_or l c.args.k []) c.as_chunks.ensures.front ∙ chunk_of_eight _ c.args.k c.args.line.now (omega (arith, c.told-line)) in
    kept w16 c.numbers.result j r.1 ∙ ap (λ l. lane l j) e ∙ get_or-chunk (8 * c.args.k) 8 c.args.line.now j (pos 0) within
