-- The view of a worker that runs, or that was joined.
use Rattle.std.specs.Prelude.{Some, None}
use Rattle.lane_workers.specs.Stages.{StageState}
use Rattle.lane_workers.specs.declared.state.State.{State}
use Rattle.lane_workers.specs.declared.state.State.TheVariants.{Running, Joined}

module _ {F G : Type 0} {f : _} {g : _} where
  abbrev pub standing_of : State F G f g → StageState F G
  standing_of (Running w) = record { feed = w.feed.value; gate = w.gate.value; handed = w.receiver.received; left = None }
  standing_of (Joined e) = record { feed = e.feed.value; gate = e.gate.value; handed = e.lane.received; left = Some e.lane.rest }
