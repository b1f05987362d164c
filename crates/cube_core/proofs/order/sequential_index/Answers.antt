use Rattle.std.proofs.Common.{◌∙◌}
use Rattle.cube_core.proofs.Orders.{sequential_index_is}
use Rattle.cube_core.proofs.order.sequential_index.Goals as goal

pub returns : goal.returns
returns c = sequential_index_is _ _ _ _ _ _ _ c.from.ensures (c.from-2.ensures ∙ c.rows.ensures.value) c.from-3.ensures
    (c.from-4.ensures ∙ c.columns.ensures.value) c.from-5.ensures
