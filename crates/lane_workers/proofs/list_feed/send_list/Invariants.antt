use Rattle.std.proofs.Common.{◌≡◌, ◌-◌, ◌≤◌, length, take, IsTrue}
use Rattle.lane_workers.proofs.list_feed.send_list.Given as goal

abbrev pub invariant-loop-first : goal.invariant-loop-first
invariant-loop-first g l =
    (l.first ≤ length l.numbers) × (l.sender.lane ≡ l.initial.sender.lane) × (l.sender.predictor ≡ l.initial.sender.predictor)
    × (l.sender.gate ≡ l.initial.sender.gate) × (l.sender.taken ≡ take l.first l.numbers) × IsTrue l.sender.ready

abbrev pub decreases-loop-first : goal.decreases-loop-first
decreases-loop-first g l = length l.numbers - l.first
