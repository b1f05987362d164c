use Rattle.std.proofs.Common.{◌≡◌, ◌+◌, ◌-◌, ◌++◌, ℕ, Bool, List, IsFalse, length, take, drop, sym, ap, arith, ◌∙◌, take-add, length-drop, length-take}
use Rattle.std.proofs.lemmas.Bool.{true≢false}
use Rattle.std.proofs.lemmas.List.{take_rest, take-take}
use Rattle.band_rings.specs.Lane.{LaneName}
use Rattle.lane_workers.specs.declared.feed.LaneEnd.{LaneEnd}
use Rattle.lane_workers.specs.Feeds.{Keeps}
use Rattle.lane_workers.proofs.list_feed.send_list.Goals as goal

-- a worker that stopped within the first numbers of a list
stopped_within : {may_stop : ℕ → ℕ → Bool} {predictor : ℕ} {lane : LaneName} {end : LaneEnd} (count : ℕ) (items : List ℕ)
    → Keeps may_stop predictor (take count items) lane end → IsFalse end.whole → Keeps may_stop predictor items lane end
stopped_within {end = end} count items kept stopped =
    let fewer = (kept.stopped stopped).1 in
    let long = length-take count items in
    record {
      lane_is = kept.lane_is;
      prefix = kept.prefix ∙ take-take (length end.closed.sent) count items (omega (arith, fewer, long));
      whole = λ whole. absurd (true≢false (sym whole ∙ stopped));
      stopped = λ _. ((kept.stopped stopped).0, omega (arith, fewer, long));
    }

-- the first numbers of a list, and the next ones
taken_more : (first count : ℕ) (items taken : List ℕ) → taken ≡ take first items
    → taken ++ take count (take (length items - first) (drop first items)) ≡ take (first + count) items
taken_more first count items taken before =
    ap (λ ns. taken ++ take count ns) (take_rest items first) ∙ ap (λ ns. ns ++ take count (drop first items)) before ∙ sym (take-add first count items)

pub returns-then-not-goes_on : goal.returns-then-not-goes_on
returns-then-not-goes_on g c =
    let told = c.send_some-first.ensures in
    let before = c.loop-first.invariant in
    let taken = told.taken ∙ taken_more c.loop-first.first c.send_some-first.result c.args.numbers.now c.loop-first.sender.taken before.4 in
    let new = c.new-sender.ensures in
    let kept = rw (taken, told.same.0 ∙ before.1, told.same.1 ∙ before.2, told.same.2 ∙ before.3, ap (λ s. s.gate) new, ap (λ s. s.predictor) new, ap (λ s. s.lane) new)
    at c.end.ensures.keeps in
    stopped_within (c.loop-first.first + c.send_some-first.result) c.args.numbers.now kept (c.end.ensures.stopped (c.goes_on.ensures.stopped c.if-not-goes_on.true))

pub loop-first-preserved : goal.loop-first-preserved
loop-first-preserved g c =
    let told = c.send_some-first.ensures in
    let before = c.loop-first.invariant in
    let taken = told.taken ∙ taken_more c.loop-first.first c.send_some-first.result c.args.numbers.now c.loop-first.sender.taken before.4 in (
      omega (arith, told.within, length-drop c.loop-first.first c.args.numbers.now),
      told.same.0 ∙ before.1,
      told.same.1 ∙ before.2,
      told.same.2 ∙ before.3,
      taken,
      told.ready (c.goes_on.ensures.open c.if-not-goes_on.false),
    )
