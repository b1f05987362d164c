use Rattle.std.proofs.Common.{◌+◌, ◌*◌, ◌∙◌, ap, w16}
use Rattle.lanes.specs.Lanes.{lane}
use Rattle.lanes.proofs.Ranges.{vector}
use Rattle.lanes.proofs.Steps.{kept}
use Rattle.band_lanes.proofs.pairs.woven.Goals as goal

pub returns-clause-even : goal.returns-clause-even
returns-clause-even c b l =
    let e = vector w16 8 c.band_row-even.result _ c.band_row-even.type_inv in let r = vector w16 16 c.paired.result _ c.paired.type_inv in
    kept w16 c.paired.result (2 * b) r.1 ∙ c.paired.ensures.even b l ∙ kept w16 c.band_row-even.result b e.1 ∙ ap (λ xs. lane xs b) c.band_row-even.ensures

pub returns-clause-odd : goal.returns-clause-odd
returns-clause-odd c b l =
    let e = vector w16 8 c.band_row-odd.result _ c.band_row-odd.type_inv in let r = vector w16 16 c.paired.result _ c.paired.type_inv in
    kept w16 c.paired.result (2 * b + 1) r.1 ∙ c.paired.ensures.odd b l ∙ kept w16 c.band_row-odd.result b e.1 ∙ ap (λ xs. lane xs b) c.band_row-odd.ensures
