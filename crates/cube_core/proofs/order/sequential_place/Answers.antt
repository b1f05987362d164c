use Rattle.std.proofs.Common.{◌∙◌, arith}
use Rattle.cube_core.proofs.Orders.{sequential_place_is}
use Rattle.cube_core.proofs.order.sequential_place.Goals as goal

pub returns-clause-index : goal.returns-clause-index
returns-clause-index c =
    rw (c.from-columns.ensures ∙ c.columns.ensures.value, c.from-rows.ensures ∙ c.rows.ensures.value)
    (sequential_place_is _ _ (omega arith) (omega arith) c.requires).index
