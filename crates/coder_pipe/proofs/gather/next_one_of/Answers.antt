use Rattle.std.proofs.Common.{◌<◌, ◌≤◌, [], ◌∷◌, length, arith}
use Rattle.std.specs.List.{All}
use Rattle.std.proofs.lemmas.List.{map-set}
use Rattle.coder_pipe.proofs.Standings.{at_of, same_feeds, same_gates, short_of, feed_moved, last_of}
use Rattle.coder_pipe.proofs.gather.next_one_of.Given as given
use Rattle.coder_pipe.proofs.gather.next_one_of.Goals as goal
use Rattle.coder_pipe.proofs.gather.next_one_of.Goals.{Start}

-- the predictor's stage is there
there : (g : given.Over) (c : Start g) → c.args.q < length c.args.stages.now.items
there g c = omega (arith, c.requires.place, c.args.stages.now.ok.0)

pub stopped_at-requires-clause-short : goal.stopped_at-requires-clause-short
stopped_at-requires-clause-short g c =
    rw (c.in_default.ensures.same.0, c.in_default.ensures.none.1)
    (short_of g.F.Feed.items c.args.stages.now.items c.args.q _ (there g (goal.at.stopped_at-requires-clause-short g c).Start)
    c.index_mut-stage.ensures.value (c.requires.short _))

pub returns-in_default-clause-feeds : goal.returns-in_default-clause-feeds
returns-in_default-clause-feeds g c = same_feeds _ c.args.q c.next_one.new.self _ c.index_mut-stage.ensures.value c.next_one.ensures.same.0

pub returns-in_default-clause-gates : goal.returns-in_default-clause-gates
returns-in_default-clause-gates g c = same_gates _ c.args.q c.next_one.new.self _ c.index_mut-stage.ensures.value c.next_one.ensures.same.1

pub no_such_number-requires-clause-list : goal.no_such_number-requires-clause-list
no_such_number-requires-clause-list g c = λ other.
    feed_moved (λ f. All (λ n. n ≤ c.args.most) (g.F.Feed.items f)) c.args.stages.now.items c.args.q c.next_one.new.self _ other
    (there g (goal.at.no_such_number-requires-clause-list g c).Start) c.index_mut-stage.ensures.value c.next_one.ensures.same.0 (c.requires.range _)

pub no_such_number-requires-clause-above : goal.no_such_number-requires-clause-above
no_such_number-requires-clause-above g c = λ other all.
    let last = last_of (λ n. n ≤ c.args.most) c.args.stages.now.items c.args.q c.next_one.new.self other _ (c.in-Some.number ∷ [])
    (there g (goal.at.no_such_number-requires-clause-above g c).Start) c.in-Some.ensures.handed all in
    omega (arith, last 0 0 (omega arith), c.if-number-most.true)

pub returns-clause-feeds : goal.returns-clause-feeds
returns-clause-feeds g c = same_feeds _ c.args.q c.next_one.new.self _ c.index_mut-stage.ensures.value c.next_one.ensures.same.0

pub returns-clause-gates : goal.returns-clause-gates
returns-clause-gates g c = same_gates _ c.args.q c.next_one.new.self _ c.index_mut-stage.ensures.value c.next_one.ensures.same.1

pub returns-clause-ok : goal.returns-clause-ok
returns-clause-ok g c =
    rw (map-set, at_of (λ s. s.handed) _ _ _ [] (there g (goal.at.returns-clause-ok g c).Start) c.index_mut-stage.ensures.value, c.in-Some.ensures.handed)

pub returns-clause-most : goal.returns-clause-most
returns-clause-most g c = omega arith

pub returns-in_default-clause-err : goal.returns-in_default-clause-err
returns-in_default-clause-err g c = λ f w.
    let ss = c.args.stages.now.items in let s = c.index_mut-stage.result.now in let e = c.index_mut-stage.ensures.value in
    let there = there g (goal.at.returns-in_default-clause-err g c).Start in
    rw (at_of (λ s. s.gate) ss c.args.q s w there e, at_of (λ s. s.feed) ss c.args.q s f there e) (
      rw (c.next_one.ensures.same.0, c.next_one.ensures.same.1) at c.stopped_at.ensures.stopped,
      rw (c.stopped_at.ensures.count, c.in_default.ensures.none.1) (short_of g.F.Feed.items ss c.args.q s there e (c.requires.short s.feed)),
    )
