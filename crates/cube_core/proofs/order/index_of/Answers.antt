use Rattle.std.proofs.Common.{refl}
use Rattle.cube_core.specs.declared.order.Order.TheVariants.{Bsq, Bi}
use Rattle.cube_core.proofs.Orders.{item_from_index, place_index_below}
use Rattle.cube_core.proofs.order.index_of.Goals as goal

pub returns-in-Bsq : goal.returns-in-Bsq
returns-in-Bsq c =
    let below = place_index_below c.args.shape.now Bsq c.args.place tt c.requires.place in
    let is = c.sequential_index.ensures in
    record { index = rw c.in-Bsq.is is; within = rw is below; item = rw (c.in-Bsq.is, is) (item_from_index _ Bsq _ _ tt c.requires.place refl below) }

pub returns-in-Bi : goal.returns-in-Bi
returns-in-Bi c =
    let lawful = rw c.in-Bi.is at c.requires.order in
    let below = place_index_below c.args.shape.now (Bi c.in-Bi.depth) c.args.place lawful c.requires.place in
    let is = c.interleaved_index.ensures in
    record { index = rw c.in-Bi.is is; within = rw is below; item = rw (c.in-Bi.is, is) (item_from_index _ (Bi _) _ _ lawful c.requires.place refl below) }
