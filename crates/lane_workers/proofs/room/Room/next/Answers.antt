use Rattle.std.proofs.Common.{◌≡◌, ◌-◌, ◌+◌, suc, take, sym, ap, ◌∙◌, arith}
use Rattle.std.proofs.lemmas.List.{drop_more}
use Rattle.lane_workers.proofs.room.Room.next.Goals as goal

pub returns-clause-handed : goal.returns-clause-handed
returns-clause-handed c =
    let room = c.self.inside in
    let more : room.end - room.first ≡ suc (room.end - (room.first + 1)) = omega arith in
    sym c.self.view_is ∙ rw more (ap (λ ns. take (suc (room.end - (room.first + 1))) ns) (drop_more room.numbers room.first 0 (omega arith)))
