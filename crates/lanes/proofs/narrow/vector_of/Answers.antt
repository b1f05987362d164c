use Rattle.std.proofs.Common.{w16, ◌∙◌}
use Rattle.lanes.proofs.Ranges.{vector}
use Rattle.lanes.proofs.Steps.{same}
use Rattle.lanes.proofs.narrow.vector_of.Goals as goal

pub returns : goal.returns
returns c = let a = vector w16 8 c.copied-row.result _ c.copied-row.type_inv in same w16 c.copied-row.result a.1 ∙ c.copied-row.ensures
