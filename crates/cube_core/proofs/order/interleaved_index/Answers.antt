use Rattle.std.proofs.Common.{◌≡◌, ◌∙◌, ◌+◌, ◌*◌, ◌-◌, arith}
use Rattle.cube_core.proofs.Words.{Bi, place_index}
use Rattle.cube_core.proofs.Orders.{interleaved_index_is, place_index_below}
use Rattle.cube_core.proofs.order.interleaved_index.Goals as goal
use Rattle.cube_core.proofs.order.interleaved_index.Goals.{After-from-4}

index_is : (c : After-from-4) → (c.from-2.result * c.from-bands.result + c.from-first.result) * c.from-columns.result
    + (c.from-3.result * c.min-size.result + (c.from-4.result - c.from-first.result)) ≡ place_index c.args.shape (Bi c.args.depth) c.args.place
index_is c =
    interleaved_index_is c.args.shape c.args.depth c.args.place c.from-2.result c.from-bands.result c.from-first.result c.from-columns.result c.from-3.result
    c.min-size.result c.from-4.result c.from.result
    c.from-2.ensures (c.from-bands.ensures ∙ c.bands.ensures.value) c.from-first.ensures
    (c.from-columns.ensures ∙ c.columns.ensures.value) c.from-3.ensures c.min-size.ensures c.from.ensures c.from-4.ensures

pub overflow_add-result-2 : goal.overflow_add-result-2
overflow_add-result-2 c = omega (arith, index_is c, place_index_below c.args.shape (Bi c.args.depth) c.args.place c.requires.depth c.requires.place)

pub returns : goal.returns
returns c = index_is c
