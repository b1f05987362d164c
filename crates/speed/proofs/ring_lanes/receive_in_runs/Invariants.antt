use Rattle.std.proofs.Common.{◌≡◌, ◌+◌, ◌-◌}
use Rattle.speed.specs.Numbers.{checksum}
use Rattle.speed.proofs.ring_lanes.receive_in_runs.Given as goal

abbrev pub invariant-loop-left : goal.invariant-loop-left
invariant-loop-left l = (l.receiver.lane ≡ l.fn.receiver.lane) × (l.sum ≡ checksum l.receiver.received)

abbrev pub decreases-loop-left : goal.decreases-loop-left
decreases-loop-left l = l.left + (10000000 - l.refused)
