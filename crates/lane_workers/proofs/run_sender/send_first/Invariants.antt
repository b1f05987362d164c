use Rattle.std.proofs.Common.{◌≡◌}
use Rattle.lane_workers.proofs.run_sender.send_first.Given as goal

abbrev pub invariant-loop : goal.invariant-loop
invariant-loop g l = (l.sender.lane ≡ l.initial.sender.lane) × (l.sender.sent ≡ l.initial.sender.sent) × (l.waiting ≡ l.initial.waiting)
