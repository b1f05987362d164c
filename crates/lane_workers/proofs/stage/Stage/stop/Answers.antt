use Rattle.std.proofs.Common.{ap, ◌∙◌}
use Rattle.lane_workers.proofs.stage.Stage.stop.Goals as goal

pub returns : goal.returns
returns g c =
    let ended = c.joined-ended.result in
    let feed = c.joined-ended.ensures.feed.0 ∙ ap (λ s. s.feed) c.self.view_is in
    let gate = c.joined-ended.ensures.feed.1 ∙ ap (λ s. s.gate) c.self.view_is in
    rw (c.sent_count.ensures, ← feed, ← gate) (ended.stopped cc)
