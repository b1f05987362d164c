use Rattle.std.proofs.Common.{◌<◌, ◌≤◌, [], ◌++◌, length, take, arith, ap, ◌∙◌, rules}
use Rattle.std.specs.List.{All}
use Rattle.std.proofs.lemmas.List.{append-nil, map-set}
use Rattle.coder_pipe.proofs.Standings.{at_of, same_feeds, same_gates, short_of, feed_moved, last_of}
use Rattle.coder_pipe.proofs.gather.next_of.Given as given
use Rattle.coder_pipe.proofs.gather.next_of.Goals as goal
use Rattle.coder_pipe.proofs.gather.next_of.Goals.{Start}

-- the predictor's stage is there
there : (g : given.Over) (c : Start g) → c.args.q < length c.args.stages.now.items
there g c = omega (arith, c.requires.place, c.args.stages.now.ok.0)

pub stopped_at-requires-clause-short : goal.stopped_at-requires-clause-short
stopped_at-requires-clause-short g c =
    let s = c.index_mut-stage.result.now in let told = c.next_run-count.ensures in
    let same = told.handed ∙ ap (λ n. s.handed ++ take n c.next_run-count.new.run) c.if-count-eq0.true ∙ append-nil s.handed in
    rw (told.same.0, same) (short_of g.F.Feed.items c.args.stages.now.items c.args.q s (there g (goal.at.stopped_at-requires-clause-short g c).Start)
    c.index_mut-stage.ensures.value (c.requires.short s.feed))

pub returns-then-count-eq0-clause-feeds : goal.returns-then-count-eq0-clause-feeds
returns-then-count-eq0-clause-feeds g c = same_feeds _ c.args.q c.next_run-count.new.self _ c.index_mut-stage.ensures.value c.next_run-count.ensures.same.0

pub returns-then-count-eq0-clause-gates : goal.returns-then-count-eq0-clause-gates
returns-then-count-eq0-clause-gates g c = same_gates _ c.args.q c.next_run-count.new.self _ c.index_mut-stage.ensures.value c.next_run-count.ensures.same.1

pub no_such_number-requires-clause-list : goal.no_such_number-requires-clause-list
no_such_number-requires-clause-list g c = λ other.
    feed_moved (λ f. All (λ n. n ≤ c.args.most) (g.F.Feed.items f)) c.args.stages.now.items c.args.q c.next_run-count.new.self _ other
    (there g (goal.at.no_such_number-requires-clause-list g c).Start) c.index_mut-stage.ensures.value c.next_run-count.ensures.same.0 (c.requires.range _)

pub no_such_number-requires-clause-above : goal.no_such_number-requires-clause-above
no_such_number-requires-clause-above g c = λ other all.
    let run = last_of (λ n. n ≤ c.args.most) c.args.stages.now.items c.args.q c.next_run-count.new.self other _ _
    (there g (goal.at.no_such_number-requires-clause-above g c).Start) c.next_run-count.ensures.handed all in
    omega (arith, c.greatest_of.ensures.least c.args.most run, c.if-greatest_of-most.true)

pub returns-clause-feeds : goal.returns-clause-feeds
returns-clause-feeds g c = same_feeds _ c.args.q c.next_run-count.new.self _ c.index_mut-stage.ensures.value c.next_run-count.ensures.same.0

pub returns-clause-gates : goal.returns-clause-gates
returns-clause-gates g c = same_gates _ c.args.q c.next_run-count.new.self _ c.index_mut-stage.ensures.value c.next_run-count.ensures.same.1

pub returns-clause-ok : goal.returns-clause-ok
returns-clause-ok g c =
    let there = there g (goal.at.returns-clause-ok g c).Start in
    rw (map-set, at_of (λ s. s.handed) _ c.args.q _ [] there c.index_mut-stage.ensures.value, c.next_run-count.ensures.handed)

pub returns-clause-most : goal.returns-clause-most
returns-clause-most g c = search rules
