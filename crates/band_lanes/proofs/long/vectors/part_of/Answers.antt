use Rattle.std.proofs.Common.{◌∙◌, ap, [], get_or, w32, arith}
use Rattle.lanes.proofs.Ranges.{vector}
use Rattle.lanes.proofs.Steps.{kept}
use Rattle.lanes.specs.Lanes.{lane}
use Rattle.band_lanes.proofs.LongRows.{quarter}
use Rattle.band_lanes.proofs.long.vectors.part_of.Goals as goal

pub returns : goal.returns
returns c k within =
    let r = vector w32 4 c.numbers.result _ c.numbers.type_inv in
    kept w32 c.numbers.result k r.1 ∙ ap (λ l. lane l k) (c.numbers.ensures ∙ ap (λ l. get_or l c.args.j []) c.as_chunks.ensures.front)
    ∙ quarter _ c.args.j k c.args.row.now (omega (arith, c.told-row, c.requires)) within
