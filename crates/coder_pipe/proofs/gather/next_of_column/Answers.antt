use Rattle.std.proofs.Common.{◌≡◌, ◌+◌, ◌∷◌, [], ◌++◌, ◌<◌, ◌≤◌, length, take, get_or, length-append, length-take, arith, ap, sym, ◌∙◌, Some, ℕ}
use Rattle.std.specs.List.{slice_get}
use Rattle.std.proofs.lemmas.List.{length-map, length-set, take_more_set}
use Rattle.std.proofs.lemmas.List.Elements.{All-push}
use Rattle.std.proofs.lemmas.Option.{slice_get-get_or}
use Rattle.file_encoding.specs.Own.{owners}
use Rattle.coder_pipe.specs.Standings.{handed_of}
use Rattle.coder_pipe.proofs.Taking.{ahead_more, owner_below, fewer_taken, place_left, may_take, owners_fit}
use Rattle.coder_pipe.proofs.gather.next_of_column.Goals as goal
use Rattle.coder_pipe.proofs.gather.next_of_column.Goals.{After-from-owner}
use Rattle.coder_pipe.proofs.gather.next_of_column.Given.{Over}

first_only : (n j : ℕ) → j < 1 → n + j ≡ n
first_only n j lt = omega arith

module _ (g : Over) (c : After-from-owner g) where
  reached : length (c.loop-i.invariant.ahead.numbers ++ take c.loop-i.i c.loop-i.run) ≡ length c.loop-i.invariant.ahead.numbers + c.loop-i.i
  reached = rw (length-append, length-take) (omega (arith, c.loop-i-test.true, c.loop-i.invariant.long, c.wanted_column-owners.ensures.most))

  next : Some c.from-owner.result ≡ slice_get (owners c.args.plan.now.deal c.args.plan.now.params)
      (length (c.loop-i.invariant.ahead.numbers ++ take c.loop-i.i c.loop-i.run))
  next =
      let own = c.wanted_column-owners.ensures.owned _ _ _ c.loop-i.invariant.ahead.woven c.loop-i.i c.loop-i-test.true in
      rw (reached, c.from-owner.ensures) (sym (own ∙ slice_get-get_or c.wanted_column-owners.result.now c.loop-i.i 0 c.loop-i-test.true))

  below : c.from-owner.result < c.args.plan.now.predictors
  below = owner_below c.args.plan.now.params _ _ _ _ c.prove_is_plan.ensures.lawful.order c.prove_is_plan.ensures.may.dealt next

  handed_within : c.from-owner.result < length (handed_of c.loop-i.stages.items)
  handed_within = rw length-map (omega (arith, below, c.loop-i.stages.ok.0, c.loop-i.invariant.many, c.requires.many))

pub bounds-done_flags-q : goal.bounds-done_flags-q
bounds-done_flags-q g c = omega (arith, below g (goal.at.bounds-done_flags-q g c).After-from-owner, c.requires.many, c.requires.done_flags)

pub next_one_of-requires-clause-place : goal.next_one_of-requires-clause-place
next_one_of-requires-clause-place g c =
    omega (arith, below g (goal.at.next_one_of-requires-clause-place g c).After-from-owner, c.requires.many, c.loop-i.invariant.many)

pub next_one_of-requires-clause-short : goal.next_one_of-requires-clause-short
next_one_of-requires-clause-short g c = λ f.
    let d = (goal.at.next_one_of-requires-clause-short g c).After-from-owner in
    let few = fewer_taken c.from-owner.result _ _ _ (c.loop-i.invariant.ahead.parts c.from-owner.result (handed_within g d)) (next g d) in
    rw c.loop-i.invariant.feeds (omega (arith, few, c.requires.lists.whole c.from-owner.result f (below g d)))

pub next_one_of-requires-clause-range : goal.next_one_of-requires-clause-range
next_one_of-requires-clause-range g c = λ f k e lt.
    let d = (goal.at.next_one_of-requires-clause-range g c).After-from-owner in
    let most = rw c.params.ensures at c.greatest-most.ensures in
    let range = c.requires.lists.range c.from-owner.result f (below g d) k e (rw c.loop-i.invariant.feeds at lt) in
    rw c.loop-i.invariant.feeds (omega (arith, range, most))

pub returns-in-Err-clause-stopped : goal.returns-in-Err-clause-stopped
returns-in-Err-clause-stopped g c =
    let d = (goal.at.returns-in-Err-clause-stopped g c).After-from-owner in
    let was = c.loop-i.invariant in (
      omega (arith, below g d, c.requires.lists.many),
      λ f w. rw (← was.feeds, ← was.gates)
          (rw (ap (λ fs. g.F.Feed.predictor (get_or fs c.from-owner.result f)) was.feeds ∙ c.requires.lists.named c.from-owner.result f (below g d)) at
          (c.in-Err.ensures.err f w)),
    )

pub loop-i-preserved : goal.loop-i-preserved
loop-i-preserved g c =
    let d = (goal.at.loop-i-preserved g c).After-from-owner in
    let was = c.loop-i.invariant in
    let room : c.loop-i.i < length c.loop-i.run = omega (arith, c.loop-i-test.true, was.long, c.wanted_column-owners.ensures.most) in
    let cut = take_more_set c.loop-i.run c.loop-i.i c.in-Ok.number room in
    let ahead = ahead_more _ _ _ _ (handed_of c.next_one_of.new.stages.items) _ c.from-owner.result (take c.loop-i.i c.loop-i.run) (c.in-Ok.number ∷ [])
    was.ahead (λ j lt. rw (first_only _ j lt) (sym (next g d))) (handed_within g d) c.in-Ok.ensures.ok in
    let range = All-push (λ n. n ≤ c.greatest-most.result) (take c.loop-i.i c.loop-i.run) c.in-Ok.number was.range c.in-Ok.ensures.most in
    record {
      feeds = c.in-Ok.ensures.feeds ∙ was.feeds;
      gates = c.in-Ok.ensures.gates ∙ was.gates;
      many = c.in-Ok.ensures.len ∙ was.many;
      long = length-set c.loop-i.run c.loop-i.i c.in-Ok.number ∙ was.long;
      ahead = rw cut ahead;
      range = rw cut range;
    }

pub returns-clause-ahead : goal.returns-clause-ahead
returns-clause-ahead g c =
    let all : c.loop-i.i ≡ length c.wanted_column-owners.result.now = omega (arith, c.loop-i-test.false, c.loop-i.auto.i-end) in
    rw all at c.loop-i.invariant.ahead

pub returns-clause-within : goal.returns-clause-within
returns-clause-within g c =
    let left = place_left _ _ _ _ _ c.prove_is_plan.ensures.lawful.order c.requires.woven c.requires.more in
    (c.wanted_column-owners.ensures.some left, c.wanted_column-owners.ensures.most)

pub returns-clause-may : goal.returns-clause-may
returns-clause-may g c =
    let was = c.loop-i.invariant in
    let all : c.loop-i.i ≡ length c.wanted_column-owners.result.now = omega (arith, c.loop-i-test.false, c.loop-i.auto.i-end) in
    let most = rw c.params.ensures at c.greatest-most.ensures in
    let from = c.wanted_column-owners.ensures.owned _ _ _ was.ahead.woven in
    let few = owners_fit c.args.plan.now.params c.args.plan.now.deal _ c.wanted_column-owners.result.now c.prove_is_plan.ensures.lawful.order
    (omega (arith, was.ahead.long, c.requires.more)) from in
    may_take _ _ _ was.ahead.numbers (take (length c.wanted_column-owners.result.now) c.loop-i.run) c.greatest-most.result was.ahead.woven
    c.prove_is_plan.ensures.lawful (omega (arith, few, length-take (length c.wanted_column-owners.result.now) c.loop-i.run)) most (rw all at was.range)
