use Rattle.std.proofs.Common.{◌≡◌, ◌+◌, ◌-◌, ◌≤◌, length, take}
use Rattle.speed.proofs.ring_lanes.send_singly.Given as goal

abbrev pub invariant-loop-sent : goal.invariant-loop-sent
invariant-loop-sent l = (l.sender.lane ≡ l.fn.sender.lane) × (l.sender.sent ≡ take l.sent l.numbers) × (l.sent ≤ length l.numbers)

abbrev pub decreases-loop-sent : goal.decreases-loop-sent
decreases-loop-sent l = (length l.numbers - l.sent) + (10000000 - l.refused)
