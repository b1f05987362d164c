use Rattle.std.proofs.Common.{◌≡◌, ◌++◌, length, take}
use Rattle.band_rings.specs.Lane.{IsLane}
use Rattle.lane_workers.proofs.run_receiver.take_all_left.Given as goal

abbrev pub invariant-loop-i : goal.invariant-loop-i
invariant-loop-i l =
    (l.lane.sent ≡ l.initial.lane.sent) × IsLane l.lane × (l.lane.received ≡ l.initial.lane.received ++ take l.i l.run)
    × (l.initial.lane.rest ≡ take l.i l.run ++ l.lane.rest) × (length l.run ≡ length l.initial.run)
