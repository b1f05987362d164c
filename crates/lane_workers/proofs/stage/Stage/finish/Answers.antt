use Rattle.std.proofs.Common.{◌≡◌, [], ap, sym, ◌∙◌, length, refl}
use Rattle.lane_workers.proofs.Ranges.{all_is_received}
use Rattle.lane_workers.proofs.stage.Stage.finish.Given.{Over}
use Rattle.lane_workers.proofs.stage.Stage.finish.Goals as goal
use Rattle.lane_workers.proofs.stage.Stage.finish.Goals.{After-joined-lane}

module _ (g : Over) (c : After-joined-lane g) where
  -- what was received is what the stage handed on
  received : c.joined-lane.result.lane.received ≡ c.args.self.handed
  received = c.joined-lane.ensures.received ∙ ap (λ s. s.handed) c.self.view_is

  -- the stage's whole list was sent, all of it was received, and nothing is left
  all : let lane = c.joined-lane.result.lane in let items = g.F.Feed.items c.args.self.feed in (lane.sent ≡ items) × (lane.received ≡ items) × (lane.rest ≡ [])
  all =
      let feed = c.joined-lane.ensures.feed.0 ∙ ap (λ s. s.feed) c.self.view_is in
      all_is_received _ _ _ _ (rw feed at c.joined-lane.result.prefix) c.joined-lane.result.parted (ap length received ∙ c.requires)

pub into_lane-requires : goal.into_lane-requires
into_lane-requires g c = (all g (goal.at.into_lane-requires g c).After-joined-lane).2

pub returns-clause-handed : goal.returns-clause-handed
returns-clause-handed g c = let d = (goal.at.returns-clause-handed g c).After-joined-lane in sym (received g d) ∙ (all g d).1

pub returns-clause-lane : goal.returns-clause-lane
returns-clause-lane g c = let all = all g (goal.at.returns-clause-lane g c).After-joined-lane in c.into_lane.ensures ∙ rw (all.0, all.1, all.2) refl
