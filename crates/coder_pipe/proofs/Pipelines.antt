-- What the parts of a run come to.
use Rattle.std.proofs.Common.{◌≡◌, ◌<◌, ℕ, Bool, List, [], ◌∷◌, length, map, get_or, sym, ap, ◌∙◌, IsTrue, Vec, Global, vec_len, arith}
use Rattle.std.specs.List.{All}
use Rattle.std.proofs.Math.ListN.{drop_of_length-le}
use Rattle.std.proofs.lemmas.List.{length-map, get_or-map}
use Rattle.band_rings.specs.Lane.{Lane}
use Rattle.cube_core.specs.declared.fault.Fault.{Fault}
use Rattle.cube_core.specs.Shape.{sample_count}
use Rattle.cube_core.specs.Order.{IsOrder, places}
use Rattle.cube_core.proofs.Orders.{length-places}
use Rattle.header_bits.specs.declared.params.Params.{Params}
use Rattle.lane_workers.specs.Stages.{StageState}
use Rattle.file_format.specs.File.{file_of_residuals}
use Rattle.coder_pipe.specs.Plans.{PlanState, IsPlan}
use Rattle.file_encoding.specs.Own.{owners, part}
use Rattle.coder_pipe.specs.Weave.{weave}
use Rattle.coder_pipe.proofs.Weaves.{weave_is, part_share, owned, length-owners}
use Rattle.coder_pipe.specs.Piping.{carried, AreFeeds, IsPiped, EndsEarly, MayStop}
use Rattle.coder_pipe.specs.Standings.{feeds_of, handed_of, IsWoven}
use Rattle.coder_pipe.specs.Stops.{MayStopAt}
use Rattle.coder_pipe.specs.Woven.{WeaverState, HasWoven}

-- an element of a list that has one
pub some_of : {A : Type 0} (xs : List A) (k : ℕ) → k < length xs → A
some_of [] k h = absurd (omega arith)
some_of (x ∷ xs) k h = x

-- all gates are one
pub one_gate : {F G : Type 0} (may_stop : G → ℕ → ℕ → Bool) (gate : G) (items : F → List ℕ) (feeds now : List F) (gates : List G) (q n : ℕ) → feeds ≡ now
    → All (λ w. w ≡ gate) gates → length gates ≡ length feeds → MayStopAt may_stop items feeds gates q n → MayStop may_stop gate items now q n
one_gate may_stop gate items feeds now gates q n same all long at =
    let f = some_of feeds q at.0 in
    let here : get_or gates q gate ≡ gate = all q gate (omega (arith, at.0)) in
    let stop : IsTrue (may_stop (get_or gates q gate) q n) = (at.1 f gate).0 in
    rw (← same) (at.0, rw here at stop, λ f. (at.1 f gate).1)

-- as many workers as before, where the feeds are the same
pub as_many : {F G : Type 0} (was now : Vec (StageState F G) Global) → feeds_of now.items ≡ feeds_of was.items → vec_len now ≡ vec_len was
as_many was now same =
    let feeds = ap (λ (fs : List _). length fs) same in
    omega (arith, feeds, length-map now.items (λ s. s.feed), length-map was.items (λ s. s.feed), now.ok.0, was.ok.0)

-- an early end whose cause is another's cause
pub early : (e : Fault) (P Q : ℕ → ℕ → Type 0) → ((q n : ℕ) → P q n → Q q n) → EndsEarly e P → EndsEarly e Q
early e P Q f h = grind arith

-- a number was taken for each place
whole_places : (p : Params) (deal numbers : List ℕ) → IsOrder p.shape p.order → length numbers ≡ sample_count p.shape → length numbers ≡ length (owners deal p)
whole_places p deal numbers lawful e = omega (arith, e, length-owners deal p, length-places p.shape p.order lawful)

-- then no place is to come
pub nothing_left : (p : Params) (deal : List ℕ) (w : WeaverState) (handed : List (List ℕ)) → IsOrder p.shape p.order
    → IsWoven p deal w handed (sample_count p.shape) → w.end.left ≡ []
nothing_left p deal w handed lawful h =
    h.woven.coded.left ∙ drop_of_length-le (places p.shape p.order) (omega (arith, h.long, length-places p.shape p.order lawful))

-- and each worker has handed on as many as its feed has
pub handed_whole : {F G : Type 0} (predictor : F → ℕ) (items : F → List ℕ) (plan : PlanState) (w : WeaverState) (ss : List (StageState F G)) (feeds : List F)
    → IsPlan plan → AreFeeds predictor items plan feeds → feeds_of ss ≡ feeds → IsWoven plan.params plan.deal w (handed_of ss) (sample_count plan.params.shape)
    → All (λ s. length s.handed ≡ length (items s.feed)) ss
handed_whole predictor items plan w ss feeds lawful lists same h k d lt =
    let s = get_or ss k d in
    let os : List ℕ = owners plan.deal plan.params in
    let few : k < plan.predictors = omega (arith, lt, ap (λ (fs : List _). length fs) same, length-map ss (λ s. s.feed), lists.many) in
    let handed : get_or (handed_of ss) k [] ≡ s.handed = get_or-map (λ s. s.handed) ss k d [] lt in
    let feed : get_or feeds k s.feed ≡ s.feed = rw (← same) (get_or-map (λ s. s.feed) ss k d s.feed lt) in
    let count = part_share k os h.numbers (whole_places plan.params plan.deal h.numbers lawful.lawful.order h.long) in
    ap (λ (ns : List ℕ). length ns) (sym handed ∙ h.parts k (rw length-map lt)) ∙ count ∙ sym (lists.whole k s.feed few) ∙ ap (λ f. length (items f)) feed

-- the file is that of the feeds' lists, woven
pub piped : {F : Type 0} (predictor : F → ℕ) (items : F → List ℕ) (plan : PlanState) (w : WeaverState) (feeds : List F) (handed : List (List ℕ)) (file : List ℕ)
    (lanes : List Lane) → IsPlan plan → AreFeeds predictor items plan feeds → IsWoven plan.params plan.deal w handed (sample_count plan.params.shape)
    → handed ≡ map items feeds → lanes ≡ map (λ f. carried (items f)) feeds
    → ((p : Params) (deal numbers : List ℕ) → HasWoven p deal w numbers → file ≡ file_of_residuals numbers p) → IsPiped items plan feeds file lanes
piped predictor items plan w feeds handed file lanes lawful lists h all carries files =
    let os : List ℕ = owners plan.deal plan.params in
    let ls : List (List ℕ) = map items feeds in
    let many : length ls ≡ plan.predictors = length-map feeds items ∙ lists.many in
    let parts : (k : ℕ) → k < length ls → get_or ls k [] ≡ part k os h.numbers = λ k lt. rw all at (h.parts k (rw all lt)) in
    let below : All (λ o. o < length ls) os =
    λ k d lt. rw many (owned plan.params.shape plan.params.order plan.predictors plan.deal lawful.lawful.order lawful.may.dealt k d lt) in
    let whole = whole_places plan.params plan.deal h.numbers lawful.lawful.order h.long in
    let woven : weave os ls ≡ h.numbers = weave_is os h.numbers ls (omega (arith, whole)) parts below in
    record { carries = carries; woven = files plan.params plan.deal h.numbers h.woven ∙ ap (λ ns. file_of_residuals ns plan.params) (sym woven) }
