use Rattle.std.proofs.Common.{ap, ◌∙◌}
use Rattle.lane_workers.proofs.worker.finish.Goals as goal

pub invariant_of-result : goal.invariant_of-result
invariant_of-result g c =
    let sent = c.settle.ensures.kept.0 in
    let keeps = c.join-closed.ensures in
    let feed = c.args.worker.same_feed in
    record {
      parted = c.settle.ensures.lane;
      prefix = rw (sent, ← feed) keeps.prefix;
      all = λ whole. sent ∙ keeps.whole whole ∙ ap g.F.Feed.items feed;
      stopped = λ stopped. rw (sent, ← feed, ← c.args.worker.same_gate) (keeps.stopped stopped);
    }
