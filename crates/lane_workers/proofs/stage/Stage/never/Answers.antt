use Rattle.std.proofs.Common.{◌≤◌, ◌++◌, All, ap, sym, subst, ◌∙◌}
use Rattle.lane_workers.proofs.Ranges.{received_is_within}
use Rattle.lane_workers.proofs.stage.Stage.never.Goals as goal

pub unreachable-requires : goal.unreachable-requires
unreachable-requires g c =
    let ended = c.joined-lane.result in
    let feed = c.joined-lane.ensures.feed.0 ∙ ap (λ s. s.feed) c.self.view_is in
    let received = c.joined-lane.ensures.received ∙ ap (λ s. s.handed) c.self.view_is in
    let list = subst (λ f. All (λ n. n ≤ c.args.most) (g.F.Feed.items f)) (sym feed) c.requires.list in
    let parted = ended.parted ∙ ap (λ ns. ns ++ ended.lane.rest) received in
    absurd (c.requires.above (received_is_within c.args.most _ ended.lane.sent c.args.self.handed ended.lane.rest list ended.prefix parted))
