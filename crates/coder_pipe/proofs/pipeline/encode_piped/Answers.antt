use Rattle.std.proofs.Common.{◌≡◌, List, length, vec_len, ap, ◌∙◌, arith}
use Rattle.std.proofs.lemmas.List.{length-map}
use Rattle.coder_pipe.proofs.pipeline.encode_piped.Goals as goal
use Rattle.coder_pipe.proofs.pipeline.encode_piped.Goals.{After-deref}
use Rattle.coder_pipe.proofs.pipeline.encode_piped.Given.{Over}

-- as many are ready as there are feeds
many_ready : (g : Over) (c : After-deref g) → vec_len c.in_ok-prepared.prepared ≡ length c.args.feeds.items
many_ready g c =
    let same = ap (λ (fs : List _). length fs) c.in_ok-prepared.ensures.feeds in
    omega (arith, same, length-map c.in_ok-prepared.prepared.items (λ r. r.feed), c.in_ok-prepared.prepared.ok.0)

pub in_threads-requires-clause-many : goal.in_threads-requires-clause-many
in_threads-requires-clause-many g c = λ κs lives. many_ready g c ∙ c.requires.feeds.many

pub in_threads-requires-clause-done_flags : goal.in_threads-requires-clause-done_flags
in_threads-requires-clause-done_flags g c = λ κs lives.
    omega (arith, many_ready g c, c.deref.ensures.len, c.in_ok-done_flags.ensures.many, c.len-count.ensures, c.args.feeds.ok.0)

pub in_threads-requires-clause-room : goal.in_threads-requires-clause-room
in_threads-requires-clause-room g c = λ κs lives.
    let many = many_ready g c in
    let count = c.len-count.ensures in
    (omega (arith, many, count, c.args.feeds.ok.0, c.in_ok-room.ensures.room.0), omega (arith, many, count, c.args.feeds.ok.0, c.in_ok-room.ensures.room.1))

pub in_threads-requires-clause-lists : goal.in_threads-requires-clause-lists
in_threads-requires-clause-lists g c = λ κs lives. rw c.in_ok-prepared.ensures.feeds c.requires.feeds

pub returns-clause-early : goal.returns-clause-early
returns-clause-early g c = rw c.in_ok-prepared.ensures.feeds at c.in_threads.ensures.early

pub returns-clause-piped : goal.returns-clause-piped
returns-clause-piped g c = rw c.in_ok-prepared.ensures.feeds at c.in_threads.ensures.piped
