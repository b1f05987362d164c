use Rattle.cube_core.proofs.Orders.{item_from_index}
use Rattle.cube_core.proofs.order.place_at.Goals as goal

pub returns-in-Bsq : goal.returns-in-Bsq
returns-in-Bsq c =
    let p = c.sequential_place.ensures in let is = c.in-Bsq.is in
    record { place = p.place; index = rw is p.index; item = item_from_index _ _ _ _ c.requires.order p.place (rw is p.index) c.requires.within }

pub returns-in-Bi : goal.returns-in-Bi
returns-in-Bi c =
    let p = c.interleaved_place.ensures in let is = c.in-Bi.is in
    record { place = p.place; index = rw is p.index; item = item_from_index _ _ _ _ c.requires.order p.place (rw is p.index) c.requires.within }
