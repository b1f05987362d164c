use Rattle.std.proofs.Common.{sym}
use Rattle.lane_workers.proofs.ready.Ready.new.Goals as goal

pub returns-clause-slots : goal.returns-clause-slots
returns-clause-slots g c = c.in_ok-sender.ensures.sender.2

pub invariant_of-result : goal.invariant_of-result
invariant_of-result g c =
    record { pair = sym c.in_ok-sender.ensures.pair; fresh = c.in_ok-sender.ensures.sender.0; empty = c.in_ok-sender.ensures.receiver.0 }
