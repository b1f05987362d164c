use Rattle.std.proofs.Common.{◌≡◌, ◌+◌, ◌^◌, ◌<◌, ◌++◌, length}
use Rattle.lane_workers.proofs.run_sender.send_all.Given as goal

abbrev pub invariant-loop-sender : goal.invariant-loop-sender
invariant-loop-sender g l = (l.sender.lane ≡ l.initial.sender.lane) × (l.sender.sent ++ l.waiting ≡ l.initial.sender.sent ++ l.initial.waiting)
    × (length l.sender.sent + length l.waiting < 2 ^ 64)

abbrev pub decreases-loop-sender : goal.decreases-loop-sender
decreases-loop-sender g l = length l.waiting
