use Rattle.std.proofs.Common.{◌≡◌, ◌<◌, ◌≤◌, [], length, take, drop, append-nil, length-take, arith, sym, subst, Some, ◌∙◌}
use Rattle.std.specs.List.{slice_get}
use Rattle.std.proofs.lemmas.List.{length-map, take-append-le}
use Rattle.file_encoding.specs.Own.{owners}
use Rattle.file_encoding.specs.Ends.{MayCodeAll}
use Rattle.coder_pipe.specs.Standings.{handed_of}
use Rattle.coder_pipe.proofs.Taking.{ahead_none, ahead_more, owner_below, owner_there, fewer_taken, run_fits, may_take, place_left}
use Rattle.coder_pipe.proofs.gather.next_of_row.Goals as goal
use Rattle.coder_pipe.proofs.gather.next_of_row.Goals.{In-Some, In-Ok}
use Rattle.coder_pipe.proofs.gather.next_of_row.Given.{Over}

pub unreachable-requires : goal.unreachable-requires
unreachable-requires g c =
    let w = c.requires.woven in
    owner_there c.args.plan.now.params c.args.plan.now.deal w.numbers c.prove_is_plan.ensures.lawful.order (omega (arith, w.long, c.requires.more))
    (c.in_default.ensures c.args.plan.now.params c.args.plan.now.deal w.numbers w.woven)

module _ (g : Over) (c : In-Some g) where
  next : Some c.in-Some.owner ≡ slice_get (owners c.args.plan.now.deal c.args.plan.now.params) (length c.requires.woven.numbers)
  next = c.in-Some.ensures c.args.plan.now.params c.args.plan.now.deal c.requires.woven.numbers c.requires.woven.woven

  below : c.in-Some.owner < c.args.plan.now.predictors
  below = owner_below c.args.plan.now.params _ _ _ _ c.prove_is_plan.ensures.lawful.order c.prove_is_plan.ensures.may.dealt next

  handed_within : c.in-Some.owner < length (handed_of c.args.stages.now.items)
  handed_within = rw length-map (omega (arith, below, c.args.stages.now.ok.0, c.requires.many))

pub bounds-done_flags-q : goal.bounds-done_flags-q
bounds-done_flags-q g c = omega (arith, below g (goal.at.bounds-done_flags-q g c).In-Some, c.requires.many, c.requires.done_flags)

pub next_of-requires-clause-place : goal.next_of-requires-clause-place
next_of-requires-clause-place g c = omega (arith, below g (goal.at.next_of-requires-clause-place g c).In-Some, c.requires.many)

pub next_of-requires-clause-room : goal.next_of-requires-clause-room
next_of-requires-clause-room g c =
    let left = place_left _ _ _ _ _ c.prove_is_plan.ensures.lawful.order c.requires.woven c.requires.more in
    omega (arith, c.wanted_run-wanted.ensures.some left, c.wanted_run-wanted.ensures.most, length-take c.wanted_run-wanted.result c.args.run.now)

pub next_of-requires-clause-short : goal.next_of-requires-clause-short
next_of-requires-clause-short g c = λ f.
    let d = (goal.at.next_of-requires-clause-short g c).In-Some in
    let few = fewer_taken c.in-Some.owner _ _ _ (c.requires.woven.parts c.in-Some.owner (handed_within g d)) (next g d) in
    omega (arith, few, c.requires.lists.whole c.in-Some.owner f (below g d))

pub next_of-requires-clause-range : goal.next_of-requires-clause-range
next_of-requires-clause-range g c = λ f k e lt.
    let d = (goal.at.next_of-requires-clause-range g c).In-Some in
    let most = rw c.params.ensures at c.greatest-most.ensures in
    omega (arith, c.requires.lists.range c.in-Some.owner f (below g d) k e lt, most)

module _ (g : Over) (c : In-Ok g) where
  within : c.in-Ok.count ≤ length c.next_of.new.run
  within = omega (arith, c.in-Ok.ensures.within.1, c.next_of.auto.run)

  few : length (take c.in-Ok.count c.next_of.new.run) ≤ c.wanted_run-wanted.result
  few = omega (arith, c.in-Ok.ensures.within.1, length-take c.in-Ok.count c.next_of.new.run, length-take c.wanted_run-wanted.result c.args.run.now)

pub returns-in-Ok-clause-ahead : goal.returns-in-Ok-clause-ahead
returns-in-Ok-clause-ahead g c =
    let all = goal.at.returns-in-Ok-clause-ahead g c in
    let d = all.In-Some in
    let was = c.requires.woven in
    let run = c.next_of.new.run in
    let one = c.wanted_run-wanted.ensures.owned _ _ _ was.woven in
    let none = ahead_none _ _ _ _ _ was in
    let ahead =
    ahead_more _ _ _ _ (handed_of c.next_of.new.stages.items) _ c.in-Some.owner [] (take c.in-Ok.count run) none
    (λ i lt. rw append-nil (one i (omega (arith, lt, few g all.In-Ok)) ∙ sym (next g d))) (handed_within g d) c.in-Ok.ensures.ok in
    rw (take-append-le c.in-Ok.count run (drop c.wanted_run-wanted.result c.args.run.now) (within g all.In-Ok)) ahead

pub returns-in-Ok-clause-may : goal.returns-in-Ok-clause-may
returns-in-Ok-clause-may g c =
    let all = goal.at.returns-in-Ok-clause-may g c in
    let was = c.requires.woven in
    let most = rw c.params.ensures at c.greatest-most.ensures in
    let one = c.wanted_run-wanted.ensures.owned _ _ _ was.woven in
    let fits =
    run_fits c.args.plan.now.params c.args.plan.now.deal was.numbers c.in-Some.owner c.wanted_run-wanted.result c.prove_is_plan.ensures.lawful.order
    (next g all.In-Some) one in
    subst (MayCodeAll c.args.weaver.now.end)
    (sym (take-append-le c.in-Ok.count c.next_of.new.run (drop c.wanted_run-wanted.result c.args.run.now) (within g all.In-Ok)))
    (may_take _ _ _ was.numbers (take c.in-Ok.count c.next_of.new.run) c.greatest-most.result was.woven c.prove_is_plan.ensures.lawful
    (omega (arith, few g all.In-Ok, fits)) most c.in-Ok.ensures.most)

pub returns-in-Err-clause-stopped : goal.returns-in-Err-clause-stopped
returns-in-Err-clause-stopped g c =
    let d = (goal.at.returns-in-Err-clause-stopped g c).In-Some in (
      omega (arith, below g d, c.requires.lists.many),
      λ f w. rw (c.requires.lists.named c.in-Some.owner f (below g d)) at (c.in-Err.ensures.err f w),
    )
