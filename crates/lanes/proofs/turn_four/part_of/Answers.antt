use Rattle.std.proofs.Common.{◌*◌, ◌∙◌, ap, [], pos, get_or, w32, arith}
use Rattle.std.proofs.lemmas.Simd.{get_or-chunk}
use Rattle.lanes.proofs.Ranges.{vector}
use Rattle.lanes.proofs.Steps.{kept}
use Rattle.lanes.proofs.TurningFour.{chunk_of_four}
use Rattle.lanes.specs.Lanes.{lane}
use Rattle.lanes.proofs.turn_four.part_of.Goals as goal

pub returns : goal.returns
returns c j within =
    let r = vector w32 4 c.four_numbers.result _ c.four_numbers.type_inv in
    let e = c.four_numbers.ensures ∙ ap (λ l. get_or l c.args.k []) c.as_chunks.ensures.front ∙ chunk_of_four _ c.args.k c.args.line.now (omega (arith, c.told-line)) in
    kept w32 c.four_numbers.result j r.1 ∙ ap (λ l. lane l j) e ∙ get_or-chunk (4 * c.args.k) 4 c.args.line.now j (pos 0) within
