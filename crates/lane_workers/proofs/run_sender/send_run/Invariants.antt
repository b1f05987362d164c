use Rattle.std.proofs.Common.{◌≡◌, ◌+◌, ◌++◌, length}
use Rattle.lane_workers.proofs.run_sender.send_run.Given as goal

abbrev pub invariant-loop : goal.invariant-loop
invariant-loop g l =
    (l.sender.lane ≡ l.initial.sender.lane) × (l.sender.sent ++ l.waiting ≡ l.initial.sender.sent ++ l.initial.waiting)
    × (length l.waiting + l.counter ≡ length l.initial.waiting) × (length l.sender.sent ≡ length l.initial.sender.sent + l.counter)
