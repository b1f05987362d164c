use Rattle.std.proofs.Common.{◌≡◌, ◌+◌, ◌-◌}
use Rattle.speed.specs.Numbers.{checksum}
use Rattle.speed.proofs.ring_lanes.receive_singly.Given as goal

abbrev pub invariant-loop-received : goal.invariant-loop-received
invariant-loop-received l = (l.receiver.lane ≡ l.fn.receiver.lane) × (l.sum ≡ checksum l.receiver.received)

abbrev pub decreases-loop-received : goal.decreases-loop-received
decreases-loop-received l = (l.count - l.received) + (10000000 - l.refused)
