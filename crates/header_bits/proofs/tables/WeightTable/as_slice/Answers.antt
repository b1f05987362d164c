use Rattle.std.proofs.Common.{◌∙◌}
use Rattle.header_bits.proofs.tables.WeightTable.as_slice.Goals as goal

pub returns : goal.returns
returns c = c.deref.ensures.value ∙ c.self.view_is
