-- The parts of a list, woven along the owners of its places, make it again.
use Rattle.std.proofs.Common.{◌≡◌, ℕ, suc, ◌+◌, ◌<◌, ◌≤◌, inl, inr, List, [], ◌∷◌, ◌++◌, length, get_or, set, Some, refl, sym, ap, ◌∙◌, arith}
use Rattle.std.proofs.Common.{true}
use Rattle.std.specs.Prelude.{◌==◌, if◌then◌else◌}
use Rattle.std.specs.List.{All, slice_get}
use Rattle.std.proofs.Common.{length-set, get_or-set_other}
use Rattle.std.proofs.lemmas.List.{length-map, get_or-map, nil_from_length, ext_get_or}
use Rattle.std.proofs.lemmas.Bool.Decides.{nat_tests}
use Rattle.std.proofs.lemmas.Bool.{cases_Bool, eq-eqb}
use Rattle.std.proofs.lemmas.Grind.{get_or-set_at}
use Rattle.std.proofs.lemmas.List.Elements.{All-map}
use Rattle.std.proofs.lemmas.List.Sums.{sum_by-cons}
use Rattle.std.proofs.lemmas.Option.{slice_get-get_or}
use Rattle.cube_core.specs.declared.order.Order.{Order}
use Rattle.cube_core.specs.Shape.{Sizes}
use Rattle.cube_core.specs.Order.{IsOrder, places, upto}
use Rattle.cube_core.proofs.Keys.{order_is_by_key}
use Rattle.cube_core.proofs.Lists.{length-from, get_or-from}
use Rattle.header_bits.specs.declared.params.Params.{Params}
use Rattle.sample_prediction.specs.Residual.{residuals}
use Rattle.file_encoding.specs.Own.{owners_of, owners, part}
use Rattle.coder_pipe.specs.Weave.{IsDeal, share, parts_of, parts, weave, WeaveOfParts, WeaveOfTaken, AreWhole, PartsOfWeave}

-- ---- one number more

pub part_none : (q : ℕ) (os : List ℕ) → part q os [] ≡ []
unfolding part
part_none q [] = refl
part_none q (o ∷ os) = refl

-- the next number goes to the owner of its place
pub part_push : (q : ℕ) (os ns : List ℕ) (o n : ℕ) → slice_get os (length ns) ≡ Some o
    → part q os (ns ++ n ∷ []) ≡ part q os ns ++ (if o == q then n ∷ [] else [])
unfolding part
part_push q [] ns o n at = absurd (cc)
part_push q (p ∷ os) [] o n at = let same : p ≡ o = cc in rw (same, part_none q os) refl
part_push q (p ∷ os) (m ∷ ns) o n at =
    let more = part_push q os ns o n at in
    elim (cases_Bool (p == q)) [ inl t ↦ rw (t, more) refl | inr t ↦ rw (t, more) refl ]

share_cons : (q o : ℕ) (os : List ℕ) → share q (o ∷ os) ≡ (if o == q then 1 else 0) + share q os
share_cons q o os = sum_by-cons (λ x. if x == q then 1 else 0) o os

share_own : (o : ℕ) (os : List ℕ) → share o (o ∷ os) ≡ 1 + share o os
share_own o os = let test : (o == o) ≡ true = eq-eqb o o refl in rw (share_cons, test) refl

-- where there is a number for each place, each predictor has one for each of its places
pub part_share : (q : ℕ) (os ns : List ℕ) → length ns ≡ length os → length (part q os ns) ≡ share q os
unfolding part
part_share q [] ns e = refl
part_share q (p ∷ os) [] e = absurd (omega arith)
part_share q (p ∷ os) (m ∷ ns) e =
    let more = part_share q os ns (omega (arith, e)) in
    elim (cases_Bool (p == q)) [ inl t ↦ rw (share_cons, t) (omega (arith, more)) | inr t ↦ rw (share_cons, t) (omega (arith, more)) ]

-- the owner of the next place still has a number to come
pub part_short : (q : ℕ) (os ns : List ℕ) → slice_get os (length ns) ≡ Some q → length (part q os ns) < share q os
unfolding part
part_short q [] ns at = absurd (cc)
part_short q (p ∷ os) [] at = let same : p ≡ q = cc in rw same (omega (arith, share_own q os))
part_short q (p ∷ os) (m ∷ ns) at =
    let more = part_short q os ns at in
    elim (cases_Bool (p == q)) [ inl t ↦ rw (share_cons, t) (omega (arith, more)) | inr t ↦ rw (share_cons, t) (omega (arith, more)) ]

-- ---- weaving

weave_step : (o n : ℕ) (os rest : List ℕ) (lists : List (List ℕ)) → get_or lists o [] ≡ n ∷ rest → weave (o ∷ os) lists ≡ n ∷ weave os (set lists o rest)
unfolding weave
weave_step o n os rest lists e = rw (e, weave) refl

-- lists that are the parts of numbers, woven along their owners, are the numbers
pub weave_is : (os ns : List ℕ) (lists : List (List ℕ)) → length ns ≤ length os → ((k : ℕ) → k < length lists → get_or lists k [] ≡ part k os ns)
    → All (λ o. o < length lists) os → weave os lists ≡ ns
unfolding part weave
weave_is [] [] lists e parts below = refl
weave_is [] (n ∷ ns) lists e parts below = absurd (omega arith)
weave_is (o ∷ os) [] lists e parts below = let none : get_or lists o [] ≡ [] = parts o (below 0 0 (omega arith)) in rw (none, weave) refl
weave_is (o ∷ os) (n ∷ ns) lists e each below =
    let there : o < length lists = below 0 0 (omega arith) in
    let here : (o == o) ≡ true = eq-eqb o o refl in
    let first : get_or lists o [] ≡ n ∷ part o os ns = rw here at (each o there) in
    let rest = part o os ns in
    let others : (k : ℕ) → k < length (set lists o rest) → get_or (set lists o rest) k [] ≡ part k os ns =
    λ k h. let was = each k (rw length-set at h) in grind (arith, nat_tests, get_or-set_at, get_or-set_other) in
    let later : All (λ x. x < length (set lists o rest)) os = λ k d h. rw length-set (below (suc k) d (omega (arith, h))) in
    rw (weave_step o n os rest lists first) (ap (λ zs. n ∷ zs) (weave_is os ns (set lists o rest) (omega (arith, e)) others later))

-- the parts of each of so many predictors
pub parts_at : (predictors k : ℕ) (os ns : List ℕ) → k < predictors → get_or (parts_of predictors os ns) k [] ≡ part k os ns
parts_at predictors k os ns h =
    let at : get_or (upto predictors) k 0 ≡ k = get_or-from 0 predictors k 0 h ∙ omega arith in
    get_or-map (λ q. part q os ns) (upto predictors) k 0 [] (rw length-from h) ∙ ap (λ q. part q os ns) at

pub length-parts : (predictors : ℕ) (os ns : List ℕ) → length (parts_of predictors os ns) ≡ predictors
length-parts predictors os ns = length-map (upto predictors) (λ q. part q os ns) ∙ length-from 0 predictors

pub weave_of_taken : WeaveOfTaken
weave_of_taken predictors os ns below few =
    let many : length (parts_of predictors os ns) ≡ predictors = length-parts predictors os ns in
    weave_is os ns (parts_of predictors os ns) few (λ k h. parts_at predictors k os ns (rw many at h)) (λ k d h. rw many (below k d h))

-- ---- lists with a number for each place

first_rest : (xs : List ℕ) → 0 < length xs → (n : ℕ) × (rest : List ℕ) × (xs ≡ n ∷ rest)
first_rest [] h = absurd (omega arith)
first_rest (n ∷ rest) h = (n, rest, refl)

abbrev IsWoven : List ℕ → List (List ℕ) → List ℕ → Type 0
IsWoven os lists w = (length w ≡ length os) × ((q : ℕ) → q < length lists → part q os w ≡ get_or lists q [])

parts_woven : (os : List ℕ) (lists : List (List ℕ)) → All (λ o. o < length lists) os → AreWhole os lists → IsWoven os lists (weave os lists)
unfolding part weave
parts_woven [] lists below whole = (refl, λ q h. sym (nil_from_length (get_or lists q []) (whole q h)))
parts_woven (o ∷ os) lists below whole =
    let there : o < length lists = below 0 0 (omega arith) in
    let f = first_rest (get_or lists o []) (omega (arith, whole o there, share_own o os)) in
    let kept : AreWhole os (set lists o f.1) = λ k h.
    let was = whole k (rw length-set at h) in
    let first = ap (λ (v : List ℕ). length v) f.2 in
    grind (arith, nat_tests, get_or-set_at, get_or-set_other, share_cons k o os) in
    let inner = parts_woven os (set lists o f.1) (λ k d h. rw length-set (below (suc k) d (omega (arith, h)))) kept in
    rw (weave_step o f.0 os f.1 lists f.2)
    (omega (arith, inner.0), λ k h. let was = inner.1 k (rw length-set h) in grind (arith, nat_tests, get_or-set_at, get_or-set_other))

pub parts_of_weave : PartsOfWeave
parts_of_weave os lists below whole =
    let w = parts_woven os lists below whole in
    let many = length-parts (length lists) os (weave os lists) in (
      w.0,
      ext_get_or [] (parts_of (length lists) os (weave os lists)) lists many
          (λ k h. parts_at (length lists) k os (weave os lists) (rw many at h) ∙ w.1 k (rw many at h)),
    )

-- ---- along the places of an image

pub owned : (s : Sizes) (order : Order) (predictors : ℕ) (deal : List ℕ) → IsOrder s order → IsDeal predictors s.bands deal
    → All (λ o. o < predictors) (owners_of deal (places s order))
unfolding owners_of
owned s order predictors deal lawful dealt = All-map (λ o. o < predictors) (λ p. get_or deal p.z 0) (places s order) (λ k d h.
    let there = (order_is_by_key s order lawful).only k _ (slice_get-get_or (places s order) k d h) in
    dealt.owned (get_or (places s order) k d).z 0 (rw dealt.whole there.band))

pub length-owners : (deal : List ℕ) (p : Params) → length (owners deal p) ≡ length (places p.shape p.order)
unfolding owners_of
length-owners deal p = length-map (places p.shape p.order) (λ q. get_or deal q.z 0)

pub weave_of_parts : WeaveOfParts
unfolding residuals
weave_of_parts p c predictors deal shape lawful dealt =
    let few : length (residuals p c) ≤ length (owners deal p) = rw (length-map, length-owners, shape) (omega arith) in
    weave_of_taken predictors (owners deal p) (residuals p c) (owned p.shape p.order predictors deal lawful dealt) few
