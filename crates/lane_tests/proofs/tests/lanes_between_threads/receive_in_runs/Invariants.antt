use Rattle.std.proofs.Common.{◌≡◌, ◌+◌, ◌-◌, ◌≤◌, length}
use Rattle.lane_tests.proofs.tests.lanes_between_threads.receive_in_runs.Given as goal

abbrev pub invariant-loop-received : goal.invariant-loop-received
invariant-loop-received l = (l.receiver.lane ≡ l.fn.receiver.lane) × (l.received ≤ length l.room)

abbrev pub decreases-loop-received : goal.decreases-loop-received
decreases-loop-received l = (length l.initial.room - l.received) + (10000000 - l.refused)
