use Rattle.std.proofs.Common.{◌≡◌, ◌++◌, take, subst, arith}
use mathlib.Core.List.{IsPrefix}
use Rattle.lane_workers.proofs.room.Room.fill.Goals as goal

pub returns-clause-received : goal.returns-clause-received
returns-clause-received c =
    let seen = c.recv_run-self-inside in
    subst (λ n. seen.new.self.received ≡ c.args.receiver.now.received ++ take n seen.new.room) (omega arith) seen.ensures.received

pub returns-clause-seen : goal.returns-clause-seen
returns-clause-seen c =
    let seen = c.recv_run-self-inside in
    subst (λ n. IsPrefix c.args.receiver.now.known (take n seen.new.room ++ seen.new.self.known)) (omega arith) seen.ensures.seen
