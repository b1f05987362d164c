use Rattle.std.proofs.Common.{◌≡◌, ◌+◌, ◌≤◌, ◌++◌, map, vec_len, vec_capacity}
use Rattle.std.specs.Vec.Iter.{into_iter_items, into_iter_len}
use Rattle.coder_pipe.proofs.pipeline.prepare.Given as goal

abbrev pub invariant-loop-feed : goal.invariant-loop-feed
invariant-loop-feed g l =
    (map (λ r. r.feed) l.prepared.items ++ into_iter_items l.feed-iterator ≡ l.fn.feeds.items)
    × (vec_len l.prepared + into_iter_len l.feed-iterator ≤ vec_capacity l.prepared)
