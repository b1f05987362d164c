use Rattle.std.proofs.Common.{◌≡◌, length}
use Rattle.lane_workers.specs.States.{standing_of}
use Rattle.lane_workers.proofs.state.State.next_run.Given as goal

abbrev pub invariant-loop : goal.invariant-loop
invariant-loop g l =
    ((standing_of l.self).feed ≡ (standing_of l.initial.self).feed) × ((standing_of l.self).gate ≡ (standing_of l.initial.self).gate)
    × ((standing_of l.self).handed ≡ (standing_of l.initial.self).handed) × (length l.run ≡ length l.initial.run)
