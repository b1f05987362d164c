use Rattle.std.proofs.Common.{◌≡◌, ◌≤◌, ◌-◌, length}
use Rattle.lane_tests.proofs.tests.workers.run.Given as goal

abbrev pub invariant-loop-handed : goal.invariant-loop-handed
invariant-loop-handed g l =
    (l.stage.feed ≡ l.initial.stage.feed) × (length l.stage.handed ≡ l.handed) × (l.handed ≤ length l.room) × (length l.room ≡ length l.initial.room)

abbrev pub decreases-loop-handed : goal.decreases-loop-handed
decreases-loop-handed g l = length l.room - l.handed
