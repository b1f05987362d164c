-- A walk's steps from place to place.
use Rattle.std.proofs.Common.{◌≡◌, ◌+◌, ◌*◌, ◌/◌, ◌<◌, ◌≤◌, ◌-◌, ℕ, zero, suc, min, true, false, List, [], ◌∷◌, Some, length, drop, refl, sym, ap, ◌∙◌, subst}
use Rattle.std.proofs.Common.{arith, drop-cons, length-drop}
use Rattle.std.proofs.lemmas.Bool.{eqb-true, true≢false}
use Rattle.std.proofs.lemmas.List.{drop-drop}
use Rattle.std.proofs.lemmas.Nat.{div-mul-add}
use Rattle.std.proofs.Math.ListN.{drop_of_length-le}
use Rattle.std.proofs.Math.Seq.{drop-nil}
use Rattle.std.proofs.Math.Nat.{lt_of_mul-lt-mul_left, div-mul-le_self, lt-div-mul-add, zero-div, div-one, min-eq_left}
use Rattle.cube_core.proofs.Words.{Order, Bsq, Bi, Place, Spot, Sizes, sample_count, IsOrder, IsPlaceOf, goes_along_rows, place_index, places, IsSpot}
use Rattle.cube_core.proofs.Words.{IsWalk, places_left, slice_get}
use Rattle.cube_core.proofs.Lists.{get-drop}
use Rattle.cube_core.proofs.Orders.{length-places, place_at_index, place_index_below}

-- ---- band after band

pub sequential_index : (s : Sizes) (p : Place) → place_index s Bsq p ≡ (p.z * s.rows + p.y) * s.columns + p.x
unfolding place_index
sequential_index s p = refl

pub columns_on : (s : Sizes) (p : Place) (n : ℕ) → place_index s Bsq (record { z = p.z; y = p.y; x = p.x + n }) ≡ place_index s Bsq p + n
unfolding place_index
columns_on s p n = omega arith

pub next_row : (s : Sizes) (p : Place) → p.x + 1 ≡ s.columns → place_index s Bsq (record { z = p.z; y = p.y + 1; x = 0 }) ≡ place_index s Bsq p + 1
unfolding place_index
next_row s p e = rw (← e) (omega arith)

pub next_band : (s : Sizes) (p : Place) → p.x + 1 ≡ s.columns → p.y + 1 ≡ s.rows
    → place_index s Bsq (record { z = p.z + 1; y = 0; x = 0 }) ≡ place_index s Bsq p + 1
unfolding place_index
next_band s p e f = rw (← e, ← f) (omega arith)

pub band_follows : (s : Sizes) (p : Place) → p.x + 1 ≡ s.columns → p.y + 1 ≡ s.rows → place_index s Bsq p + 1 < sample_count s → p.z + 1 < s.bands
band_follows s p e f more =
    let after = next_band s p e f in
    let place = sequential_index s (record { z = p.z + 1; y = 0; x = 0 }) in
    lt_of_mul-lt-mul_left (s.rows * s.columns) (omega (arith, after, place))

-- ---- band interleaved

pub index_in_group : (s : Sizes) (depth first : ℕ) (p : Place) → first ≡ p.z / depth * depth
    → place_index s (Bi depth) p ≡ (p.y * s.bands + first) * s.columns + (p.x * min depth (s.bands - first) + (p.z - first))
unfolding place_index
index_in_group s depth first p e = rw e refl

-- a band between the group's first and the next group's first is in the group
pub group_kept : (depth first z w : ℕ) → first ≡ z / depth * depth → first ≤ w → w < first + depth → first ≡ w / depth * depth
group_kept depth first z w e a b =
    let place : z / depth * depth + (w - first) ≡ w = omega arith in
    let group : w / depth ≡ z / depth = subst (λ (n : ℕ). n / depth ≡ z / depth) place (div-mul-add (z / depth) depth (w - first) (omega arith)) in
    e ∙ sym (ap (λ (n : ℕ). n * depth) group)

pub group_next : (depth first z : ℕ) → 1 ≤ depth → first ≡ z / depth * depth → first + depth ≡ (first + depth) / depth * depth
group_next depth first z h e =
    let place : (z / depth + 1) * depth + 0 ≡ first + depth = omega arith in
    let group : (first + depth) / depth ≡ z / depth + 1 =
    subst (λ (n : ℕ). n / depth ≡ z / depth + 1) place (div-mul-add (z / depth + 1) depth 0 (omega arith)) in
    rw group (omega arith)

-- a spot of these bands so many places on
abbrev StepsOn : Sizes → Order → ℕ → Spot → Spot → Type 0
StepsOn s o n p q = IsSpot s o q × (place_index s o q.place ≡ place_index s o p.place + n)

abbrev StepsTo : Sizes → ℕ → Spot → Spot → Type 0
StepsTo s depth p q = StepsOn s (Bi depth) 1 p q

abbrev bands_on : Spot → ℕ → Spot
bands_on p n = record { place = record { z = p.place.z + n; y = p.place.y; x = p.place.x }; first = p.first; end = p.end }

abbrev places_on : Spot → ℕ → Spot
places_on p n = record { place = record { z = p.place.z; y = p.place.y; x = p.place.x + n }; first = p.first; end = p.end }

-- so many bands on, in the group
pub bands_of_group : (s : Sizes) (depth : ℕ) (p : Spot) (n : ℕ) → 1 ≤ depth → IsSpot s (Bi depth) p → p.place.z + n < p.end
    → StepsOn s (Bi depth) n p (bands_on p n)
bands_of_group s depth p n h spot more =
    let low : p.place.z / depth * depth ≤ p.place.z = div-mul-le_self p.place.z depth in
    let kept : p.first ≡ (p.place.z + n) / depth * depth =
    group_kept depth p.first p.place.z (p.place.z + n) spot.1 (omega (arith, spot.1)) (omega (arith, spot.2)) in (
      (record { band = omega (arith, spot.2); row = spot.0.row; column = spot.0.column }, kept, spot.2),
      index_in_group s depth p.first (bands_on p n).place kept ∙ sym (ap (λ i. i + n) (index_in_group s depth p.first p.place spot.1) ∙ omega (arith, spot.1)),
    )

columns_of_line : (s : Sizes) (p : Place) (n : ℕ) → IsPlaceOf s p → place_index s (Bi 1) (record { z = p.z; y = p.y; x = p.x + n }) ≡ place_index s (Bi 1) p + n
columns_of_line s p n there =
    let first : p.z ≡ p.z / 1 * 1 = omega (arith, div-one p.z) in
    let one : min 1 (s.bands - p.z) ≡ 1 = min-eq_left (omega (arith, there.band)) in
    rw (index_in_group s 1 p.z p first, index_in_group s 1 p.z (record { z = p.z; y = p.y; x = p.x + n }) first, one) (omega arith)

-- so many columns on, where places go along rows
pub columns_along : (s : Sizes) (o : Order) (p : Place) (n : ℕ) → goes_along_rows o ≡ true → IsPlaceOf s p
    → place_index s o (record { z = p.z; y = p.y; x = p.x + n }) ≡ place_index s o p + n
columns_along s Bsq p n along there = columns_on s p n
columns_along s (Bi depth) p n along there = rw (eqb-true depth 1 along) (columns_of_line s p n there)

pub spot_place : (s : Sizes) (o : Order) (p : Spot) → IsSpot s o p → IsPlaceOf s p.place
spot_place s Bsq p h = h
spot_place s (Bi depth) p h = h.0

spot_along : (s : Sizes) (o : Order) (p : Spot) (n : ℕ) → IsSpot s o p → p.place.x + n < s.columns → IsSpot s o (places_on p n)
spot_along s Bsq p n spot more = record { band = spot.band; row = spot.row; column = more }
spot_along s (Bi depth) p n spot more = (record { band = spot.0.band; row = spot.0.row; column = more }, spot.1, spot.2)

pub columns_of_row : (s : Sizes) (o : Order) (p : Spot) (n : ℕ) → goes_along_rows o ≡ true → IsSpot s o p → p.place.x + n < s.columns
    → StepsOn s o n p (places_on p n)
columns_of_row s o p n along spot more = (spot_along s o p n spot more, columns_along s o p.place n along (spot_place s o p spot))

-- under interleaving a spot's band is before its group's end
pub before_end : (s : Sizes) (o : Order) (p : Spot) → IsOrder s o → goes_along_rows o ≡ false → IsSpot s o p → p.place.z < p.end
before_end s Bsq p lawful along spot = elim (true≢false along) [ ]
before_end s (Bi depth) p lawful along spot = omega (arith, spot.1, spot.2, spot.0.band, lt-div-mul-add {a = p.place.z} lawful.0)

-- so many bands on, where places go along columns of bands
pub bands_of_column : (s : Sizes) (o : Order) (p : Spot) (n : ℕ) → IsOrder s o → goes_along_rows o ≡ false → IsSpot s o p → p.place.z + n < p.end
    → StepsOn s o n p (bands_on p n)
bands_of_column s Bsq p n lawful along spot more = elim (true≢false along) [ ]
bands_of_column s (Bi depth) p n lawful along spot more = bands_of_group s depth p n lawful.0 spot more

-- so many columns of the group's bands on
pub columns_of_group : (s : Sizes) (o : Order) (p : Spot) (n : ℕ) → IsOrder s o → goes_along_rows o ≡ false → IsSpot s o p → p.place.x + n < s.columns
    → StepsOn s o (n * (p.end - p.first)) p (places_on p n)
columns_of_group s Bsq p n lawful along spot more = elim (true≢false along) [ ]
columns_of_group s (Bi depth) p n lawful along spot more =
    let size : p.end - p.first ≡ min depth (s.bands - p.first) = omega (arith, spot.2) in (
      spot_along s (Bi depth) p n spot more,
      rw (index_in_group s depth p.first (places_on p n).place spot.1, index_in_group s depth p.first p.place spot.1, size) (omega arith),
    )

-- the group's first band, a column on
pub next_in_row : (s : Sizes) (depth : ℕ) (p : Spot) → 1 ≤ depth → IsSpot s (Bi depth) p → p.end ≤ p.place.z + 1 → p.place.x + 1 < s.columns
    → StepsTo s depth p (record { place = record { z = p.first; y = p.place.y; x = p.place.x + 1 }; first = p.first; end = p.end })
next_in_row s depth p h spot last more =
    let low : p.place.z / depth * depth ≤ p.place.z = div-mul-le_self p.place.z depth in
    let high : p.place.z < p.place.z / depth * depth + depth = lt-div-mul-add h in
    let kept : p.first ≡ p.first / depth * depth = group_kept depth p.first p.place.z p.first spot.1 (omega arith) (omega arith) in
    let later : p.place.z - p.first + 1 ≡ min depth (s.bands - p.first) = omega (arith, spot.1, spot.2, spot.0.band) in (
      (record { band = omega (arith, spot.1, spot.0.band); row = spot.0.row; column = more }, kept, spot.2),
      index_in_group s depth p.first (record { z = p.first; y = p.place.y; x = p.place.x + 1 }) kept
          ∙ sym (ap (λ n. n + 1) (index_in_group s depth p.first p.place spot.1) ∙ omega (arith, later)),
    )

-- the next group's first band, in the first column
pub next_group : (s : Sizes) (depth : ℕ) (p : Spot) → 1 ≤ depth → IsSpot s (Bi depth) p → p.end ≤ p.place.z + 1 → s.columns ≤ p.place.x + 1 → p.end < s.bands
    → StepsTo s depth p (record { place = record { z = p.end; y = p.place.y; x = 0 }; first = p.end; end = min s.bands (p.end + depth) })
next_group s depth p h spot last column more =
    let low : p.place.z / depth * depth ≤ p.place.z = div-mul-le_self p.place.z depth in
    let end : p.first + depth ≡ p.end = omega (arith, spot.2) in
    let next : p.end ≡ p.end / depth * depth = subst (λ (n : ℕ). n ≡ n / depth * depth) end (group_next depth p.first p.place.z h spot.1) in
    let size : min depth (s.bands - p.first) ≡ depth = omega (arith, spot.2) in
    let x : p.place.x + 1 ≡ s.columns = omega (arith, spot.0.column) in
    let later : p.place.z - p.first + 1 ≡ depth = omega (arith, spot.1, spot.2, spot.0.band, lt-div-mul-add {a = p.place.z} h) in
    let place : (p.place.y * s.bands + p.end) * s.columns ≡ (p.place.y * s.bands + p.first) * s.columns + depth * (p.place.x + 1) =
    rw (← end, ← x) (omega arith) in (
      (record { band = more; row = spot.0.row; column = omega (arith, spot.0.column) }, next, omega arith),
      index_in_group s depth p.end (record { z = p.end; y = p.place.y; x = 0 }) next
          ∙ sym (ap (λ n. n + 1) (index_in_group s depth p.first p.place spot.1) ∙ rw size (omega (arith, place, later))),
    )

-- the first band and column of the next row
pub next_line : (s : Sizes) (depth : ℕ) (p : Spot) → 1 ≤ depth → depth ≤ s.bands → IsSpot s (Bi depth) p → p.end ≤ p.place.z + 1 → s.columns ≤ p.place.x + 1
    → s.bands ≤ p.end → place_index s (Bi depth) p.place + 1 < sample_count s
    → StepsTo s depth p (record { place = record { z = 0; y = p.place.y + 1; x = 0 }; first = 0; end = depth })
next_line s depth p h deep spot last column bands more =
    let low : p.place.z / depth * depth ≤ p.place.z = div-mul-le_self p.place.z depth in
    let size : min depth (s.bands - p.first) ≡ s.bands - p.first = omega (arith, spot.2) in
    let x : p.place.x + 1 ≡ s.columns = omega (arith, spot.0.column) in
    let later : p.place.z - p.first + 1 ≡ s.bands - p.first = omega (arith, spot.1, spot.2, spot.0.band) in
    let all : p.first + (s.bands - p.first) ≡ s.bands = omega (arith, spot.1, spot.0.band) in
    let line : (p.place.y + 1) * s.bands * s.columns ≡ (p.place.y * s.bands + (p.first + (s.bands - p.first))) * s.columns = rw all (omega arith) in
    let place : (p.place.y + 1) * s.bands * s.columns ≡ (p.place.y * s.bands + p.first) * s.columns + (s.bands - p.first) * (p.place.x + 1) =
    line ∙ rw (← x) (omega arith) in
    let index : place_index s (Bi depth) p.place + 1 ≡ (p.place.y + 1) * s.bands * s.columns =
    ap (λ n. n + 1) (index_in_group s depth p.first p.place spot.1) ∙ rw size (omega (arith, place, later)) in
    let row : p.place.y + 1 < s.rows = lt_of_mul-lt-mul_left (s.bands * s.columns) (omega (arith, index)) in
    let first : 0 ≡ 0 / depth * depth = omega arith in (
      (record { band = omega arith; row = row; column = omega (arith, spot.0.column) }, first, omega arith),
      index_in_group s depth 0 (record { z = 0; y = p.place.y + 1; x = 0 }) first ∙ sym (index ∙ omega arith),
    )

-- ---- what is left

pub length-places_left : (s : Sizes) (o : Order) (left : ℕ) → IsOrder s o → left ≤ sample_count s → length (places_left s o left) ≡ left
unfolding places_left
length-places_left s o left lawful h = length-drop (sample_count s - left) (places s o) ∙ rw (length-places s o lawful) (omega arith)

pub none_left : (s : Sizes) (o : Order) → IsOrder s o → places_left s o 0 ≡ []
unfolding places_left
none_left s o lawful = drop_of_length-le (places s o) (omega (arith, length-places s o lawful))

pub first_left : (s : Sizes) (o : Order) (p : Place) (left : ℕ) → IsOrder s o → IsPlaceOf s p → place_index s o p + left ≡ sample_count s → 0 < left
    → places_left s o left ≡ p ∷ places_left s o (left - 1)
unfolding places_left
first_left s o p left lawful place e more =
    let here : sample_count s - left ≡ place_index s o p = omega arith in
    let next : sample_count s - (left - 1) ≡ suc (place_index s o p) = omega arith in
    let within : place_index s o p < length (places s o) = omega (arith, length-places s o lawful) in
    rw (here, next, drop-cons (places s o) (place_index s o p) p within, place_at_index s o p p lawful place) refl

-- after so many of what is left, so many fewer are left
pub left_after : (s : Sizes) (o : Order) (left n : ℕ) → left ≤ sample_count s → n ≤ left → places_left s o (left - n) ≡ drop n (places_left s o left)
unfolding places_left
left_after s o left n few h =
    let e : sample_count s - (left - n) ≡ sample_count s - left + n = omega arith in
    rw e (sym (drop-drop n (sample_count s - left) (places s o)))

-- a walk goes on to a spot so many places on, and to the one after it
pub walk_on : (s : Sizes) (o : Order) (p q after : Spot) (left n : ℕ) → IsWalk s o p left → n < left → StepsOn s o n p q
    → (0 < left - (n + 1) → StepsOn s o 1 q after) → IsWalk s o after (left - (n + 1))
walk_on s o p q after left n walk more on next = record {
  lawful = walk.lawful;
  few = omega (arith, walk.few);
  spot = λ some. ((next some).0, omega (arith, (next some).1, on.1, (walk.spot (omega arith)).1));
}

-- what remains to be gone by after a part of it
pub rest_after : (s : Sizes) (o : Order) (left rest n : ℕ) → left ≤ sample_count s → rest ≤ left → n ≤ rest
    → drop (rest - n) (places_left s o (left - n)) ≡ drop rest (places_left s o left)
rest_after s o left rest n few all some =
    let e : n + (rest - n) ≡ rest = omega arith in
    rw (left_after s o left n few (omega arith)) (drop-drop (rest - n) n (places_left s o left) ∙ rw e refl)

drop_at_most : (n : ℕ) (ps : List Place) → drop (min n (length ps)) ps ≡ drop n ps
drop_at_most n [] = drop-nil (min n 0) ∙ sym (drop-nil n)
drop_at_most zero (p ∷ ps) = let e : min 0 (suc (length ps)) ≡ 0 = omega arith in rw e refl
drop_at_most (suc n) (p ∷ ps) = let e : min (suc n) (suc (length ps)) ≡ suc (min n (length ps)) = omega arith in rw e (drop_at_most n ps)

-- so many places, or all that are left
pub at_most_left : (s : Sizes) (o : Order) (left count : ℕ) → IsOrder s o → left ≤ sample_count s
    → drop (min count left) (places_left s o left) ≡ drop count (places_left s o left)
at_most_left s o left count lawful few =
    let long : length (places_left s o left) ≡ left = length-places_left s o left lawful few in
    ap (λ n. drop (min count n) (places_left s o left)) (sym long) ∙ drop_at_most count (places_left s o left)

pub next_left : (s : Sizes) (o : Order) (p : Spot) (left : ℕ) → IsWalk s o p left → 0 < left → places_left s o left ≡ p.place ∷ places_left s o (left - 1)
next_left s o p left h more = first_left s o p.place left h.lawful (spot_place s o p (h.spot more).0) (h.spot more).1 more

pub all_left : (s : Sizes) (o : Order) → places_left s o (sample_count s) ≡ places s o
unfolding places_left
all_left s o = let e : sample_count s - sample_count s ≡ 0 = omega arith in rw e refl

-- the first place's index is 0
pub first_index : (s : Sizes) (o : Order) → place_index s o (record { z = 0; y = 0; x = 0 }) ≡ 0
unfolding place_index
first_index s Bsq = omega arith
first_index s (Bi depth) =
    let none : 0 / depth * depth ≡ 0 = rw (zero-div depth) (omega arith) in
    rw none (omega arith)

-- the places of a column come one after another
pub column_left : (s : Sizes) (depth : ℕ) (p : Spot) (left i : ℕ) → IsWalk s (Bi depth) p left → 0 < left → p.place.z + i < p.end
    → slice_get (places_left s (Bi depth) left) i ≡ Some (bands_on p i).place
column_left s depth p left i walk more inside =
    let on = bands_of_group s depth p i walk.lawful.0 (walk.spot more).0 inside in
    let index : place_index s (Bi depth) (bands_on p i).place < sample_count s = place_index_below s (Bi depth) (bands_on p i).place walk.lawful on.0.0 in
    let few : i < left = omega (arith, index, on.1, (walk.spot more).1) in
    let next = first_left s (Bi depth) (bands_on p i).place (left - i) walk.lawful on.0.0 (omega (arith, on.1, (walk.spot more).1, few)) (omega (arith, few)) in
    sym (get-drop (places_left s (Bi depth) left) i)
    ∙ ap (λ (ps : List Place). slice_get ps 0) (sym (left_after s (Bi depth) left i walk.few (omega (arith, few))) ∙ next)

pub column_of : (s : Sizes) (o : Order) (depth : ℕ) (p : Spot) (left : ℕ) (ps : List Place) (i : ℕ) (q : Place) → o ≡ Bi depth → IsWalk s o p left → 0 < left
    → places_left s o left ≡ ps → i < p.end - p.place.z → slice_get ps 0 ≡ Some q
    → slice_get ps i ≡ Some (record { z = q.z + i; y = q.y; x = q.x })
column_of s o depth p left ps i q is walk more these inside first =
    let under : IsWalk s (Bi depth) p left = subst (λ (k : Order). IsWalk s k p left) is walk in
    let list : places_left s (Bi depth) left ≡ ps = subst (λ (k : Order). places_left s k left ≡ ps) is these in
    let next : ps ≡ p.place ∷ places_left s (Bi depth) (left - 1) = sym list ∙ next_left s (Bi depth) p left under more in
    let here : Some p.place ≡ Some q = sym (ap (λ (x : List Place). slice_get x 0) next) ∙ first in
    let same : p.place ≡ q = cc in
    ap (λ (x : List Place). slice_get x i) (sym list) ∙ column_left s depth p left i under more (omega (arith, inside))
    ∙ ap (λ (r : Place). Some (record { z = r.z + i; y = r.y; x = r.x })) same
