-- What the weaver has taken of all predictors, run after run.
use Rattle.std.proofs.Common.{◌≡◌, ◌+◌, ◌^◌, ◌<◌, ◌≤◌, ℕ, zero, suc, List, [], ◌∷◌, ◌++◌, length, drop, get_or, set, Some, None, refl, sym, ap, ◌∙◌, inl, inr}
use Rattle.std.proofs.Common.{append-nil, append_assoc, length-append, length-drop, length-set, get_or-set_other, arith}
use Rattle.std.specs.Prelude.{◌==◌, if◌then◌else◌}
use Rattle.std.specs.List.{All, slice_get}
use Rattle.std.proofs.lemmas.Bool.{cases_Bool}
use Rattle.std.proofs.lemmas.Bool.Decides.{nat_tests}
use Rattle.std.proofs.lemmas.Grind.{get_or-set_at}
use Rattle.std.proofs.lemmas.List.Elements.{All-weaker, recursion_from_All}
use Rattle.std.proofs.lemmas.Option.{slice_get_within, slice_get-get_or, get_or_from_slice_get}
use Rattle.cube_core.specs.Shape.{sample_count}
use Rattle.cube_core.specs.Order.{IsOrder, places}
use Rattle.cube_core.proofs.Orders.{length-places}
use Rattle.header_bits.specs.declared.params.Params.{Params}
use Rattle.header_bits.specs.Lawful.{IsLawful}
use Rattle.file_encoding.specs.Ends.{MayCodeAll}
use Rattle.file_encoding.specs.Own.{owners, part}
use Rattle.coder_pipe.specs.Weave.{IsDeal, share}
use Rattle.coder_pipe.proofs.Weaves.{part_none, part_push, part_short, owned, length-owners}
use Rattle.coder_pipe.specs.Standings.{IsAhead, IsWoven}
use Rattle.coder_pipe.specs.Woven.{WeaverState, HasWoven, WeavesAll, AreOfOne, AreOwnersFrom}

pub woven_first : (p : Params) (deal : List ℕ) (w : WeaverState) (handed : List (List ℕ)) → HasWoven p deal w [] → All (λ r. r ≡ []) handed
    → IsWoven p deal w handed 0
woven_first p deal w handed h none = record { numbers = []; woven = h; long = refl; parts = λ q lt. none q [] lt ∙ sym (part_none q (owners deal p)) }

-- whose number comes next
pub owner_below : (p : Params) (deal numbers : List ℕ) (predictors owner : ℕ) → IsOrder p.shape p.order → IsDeal predictors p.shape.bands deal
    → Some owner ≡ slice_get (owners deal p) (length numbers) → owner < predictors
owner_below p deal numbers predictors owner lawful dealt e =
    let lt : length numbers < length (owners deal p) = slice_get_within (owners deal p) (length numbers) owner (sym e) in
    let at : get_or (owners deal p) (length numbers) 0 ≡ owner = get_or_from_slice_get (owners deal p) (length numbers) owner 0 (sym e) in
    rw at at (owned p.shape p.order predictors deal lawful dealt (length numbers) 0 lt)

-- there is one as long as there are places
pub owner_there : (p : Params) (deal numbers : List ℕ) → IsOrder p.shape p.order → length numbers < sample_count p.shape
    → None ≡ slice_get (owners deal p) (length numbers) → ⊥
owner_there p deal numbers lawful lt e =
    let some : slice_get (owners deal p) (length numbers) ≡ Some (get_or (owners deal p) (length numbers) 0) =
    slice_get-get_or (owners deal p) (length numbers) 0 (omega (arith, lt, length-owners deal p, length-places p.shape p.order lawful)) in
    absurd (cc)

-- fewer were taken of it than there are
pub fewer_taken : (owner : ℕ) (os numbers handed : List ℕ) → handed ≡ part owner os numbers → Some owner ≡ slice_get os (length numbers)
    → length handed < share owner os
fewer_taken owner os numbers handed is e = rw is (part_short owner os numbers (sym e))

-- ---- runs

-- so many places are of one owner, so there are so many
pub run_fits : (p : Params) (deal numbers : List ℕ) (owner count : ℕ) → IsOrder p.shape p.order → Some owner ≡ slice_get (owners deal p) (length numbers)
    → AreOfOne (owners deal p) (length numbers) count → length numbers + count ≤ sample_count p.shape
run_fits p deal numbers owner zero lawful e one =
    omega (arith, slice_get_within (owners deal p) (length numbers) owner (sym e), length-owners deal p, length-places p.shape p.order lawful)
run_fits p deal numbers owner (suc count) lawful e one =
    let last : slice_get (owners deal p) (length numbers + count) ≡ Some owner = one count (omega arith) ∙ sym e in
    omega (arith, slice_get_within (owners deal p) (length numbers + count) owner last, length-owners deal p, length-places p.shape p.order lawful)

-- a run of numbers of one owner comes after its part, and the other parts stay
part_run : (q owner : ℕ) (os ns run : List ℕ) → ((i : ℕ) → i < length run → slice_get os (length ns + i) ≡ Some owner)
    → part q os (ns ++ run) ≡ part q os ns ++ (if owner == q then run else [])
part_run q owner os ns [] at = elim (cases_Bool (owner == q)) [ inl t ↦ rw (t, append-nil, append-nil) refl | inr t ↦ rw (t, append-nil, append-nil) refl ]
part_run q owner os ns (n ∷ run) at =
    let first : slice_get os (length ns) ≡ Some owner = let here : length ns + 0 ≡ length ns = omega arith in rw here at (at 0 (omega arith)) in
    let grown : length (ns ++ n ∷ []) ≡ length ns + 1 = length-append ns (n ∷ []) in
    let later : (i : ℕ) → i < length run → slice_get os (length (ns ++ n ∷ []) + i) ≡ Some owner =
    λ i lt. (let to : length (ns ++ n ∷ []) + i ≡ length ns + suc i = omega (arith, grown) in rw to (at (suc i) (omega (arith, lt)))) in
    let rest = part_run q owner os (ns ++ n ∷ []) run later in
    let one = part_push q os ns owner n first in
    ap (λ xs. part q os xs) (sym (append_assoc ns (n ∷ []) run)) ∙ rest ∙ rw one (
    elim (cases_Bool (owner == q)) [ inl t ↦ rw (t, append_assoc) refl | inr t ↦ rw (t, append-nil, append-nil) refl ])

more_run : (handed : List (List ℕ)) (os ns run : List ℕ) (o k : ℕ) → o < length handed → ((i : ℕ) → i < length run → slice_get os (length ns + i) ≡ Some o)
    → get_or handed k [] ≡ part k os ns → get_or handed o [] ≡ part o os ns → get_or (set handed o (get_or handed o [] ++ run)) k [] ≡ part k os (ns ++ run)
more_run handed os ns run o k lt at here own =
    let pushed = part_run k o os ns run at in
    grind (arith, nat_tests, get_or-set_at, get_or-set_other, append-nil, pushed)

-- nothing was handed on ahead
abbrev pub ahead_none : (p : Params) (deal : List ℕ) (w : WeaverState) (handed : List (List ℕ)) (count : ℕ) → IsWoven p deal w handed count
    → IsAhead p deal w handed count []
ahead_none p deal w handed count h = record { numbers = h.numbers; woven = h.woven; long = h.long; parts = λ q lt. rw (append-nil h.numbers) (h.parts q lt) }

-- a run more was handed on ahead
pub ahead_more : (p : Params) (deal : List ℕ) (w : WeaverState) (handed now : List (List ℕ)) (count owner : ℕ) (ahead run : List ℕ)
    (h : IsAhead p deal w handed count ahead) → ((i : ℕ) → i < length run → slice_get (owners deal p) (length (h.numbers ++ ahead) + i) ≡ Some owner)
    → owner < length handed → now ≡ set handed owner (get_or handed owner [] ++ run) → IsAhead p deal w now count (ahead ++ run)
ahead_more p deal w handed now count owner ahead run h at lt is = record {
  numbers = h.numbers;
  woven = h.woven;
  long = h.long;
  parts = λ q below.
      let inside : q < length handed = rw (is, length-set) at below in
      let more = more_run handed (owners deal p) (h.numbers ++ ahead) run owner q lt at (h.parts q inside) (h.parts owner lt) in
      rw (is, ← append_assoc) more;
}

-- what was handed on ahead was taken
pub woven_ahead : (p : Params) (deal : List ℕ) (old new : WeaverState) (handed : List (List ℕ)) (count : ℕ) (ahead : List ℕ) → IsAhead p deal old handed count ahead
    → WeavesAll old new ahead → IsWoven p deal new handed (count + length ahead)
woven_ahead p deal old new handed count ahead h takes = record {
  numbers = h.numbers ++ ahead;
  woven = takes p deal h.numbers h.woven;
  long = length-append h.numbers ahead ∙ ap (λ n. n + length ahead) h.long;
  parts = h.parts;
}

-- numbers that were handed on may be taken
pub may_take : (p : Params) (deal : List ℕ) (w : WeaverState) (numbers list : List ℕ) (most : ℕ) → HasWoven p deal w numbers → IsLawful p
    → length numbers + length list ≤ sample_count p.shape → most + 1 ≡ 2 ^ p.kind.bits → All (λ n. n ≤ most) list → MayCodeAll w.end list
may_take p deal w numbers list most h lawful few is range = record {
  params = p;
  numbers = numbers;
  lawful = lawful;
  coded = h.coded;
  more = few;
  range = recursion_from_All (λ n. n < 2 ^ p.kind.bits) list (All-weaker (λ n. n ≤ most) (λ n. n < 2 ^ p.kind.bits) (λ n le. omega (arith, is, le)) list range);
}

-- there are as many places as owners after those taken
pub owners_fit : (p : Params) (deal numbers some : List ℕ) → IsOrder p.shape p.order → length numbers ≤ sample_count p.shape
    → AreOwnersFrom (owners deal p) (length numbers) some → length numbers + length some ≤ sample_count p.shape
owners_fit p deal numbers [] lawful few from = omega (arith, few)
owners_fit p deal numbers (o ∷ os) lawful few from =
    let last = from (length os) (omega arith) ∙ slice_get-get_or (o ∷ os) (length os) 0 (omega arith) in
    let within = slice_get_within (owners deal p) (length numbers + length os) (get_or (o ∷ os) (length os) 0) last in
    omega (arith, within, length-owners deal p, length-places p.shape p.order lawful)

-- fewer were taken than there are places, so a place is to come
pub place_left : (p : Params) (deal : List ℕ) (w : WeaverState) (handed : List (List ℕ)) (count : ℕ) → IsOrder p.shape p.order → IsWoven p deal w handed count
    → count < sample_count p.shape → 0 < length w.end.left
place_left p deal w handed count lawful h lt =
    let left : length w.end.left ≡ length (drop (length h.numbers) (places p.shape p.order)) = ap (λ (x : List _). length x) h.woven.coded.left in
    omega (arith, left, h.long, lt, length-drop (length h.numbers) (places p.shape p.order), length-places p.shape p.order lawful)
