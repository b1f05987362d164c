-- The encoding order is the order of the places' keys.
use Rattle.std.proofs.Common.{◌≡◌, ◌⊎◌, ◌+◌, ◌*◌, ◌/◌, ◌<◌, ◌≤◌, ◌-◌, ℕ, suc, min, List, get_or, refl, sym, ap, ◌∙◌, subst, arith, inl, inr, Some, [], ◌∷◌}
use Rattle.std.proofs.lemmas.Nat.{mul-add-lt, mul-le}
use Rattle.std.proofs.lemmas.Bool.{cases_lt, cases_order}
use Rattle.std.proofs.Math.Nat.{div-mul-le_self, lt-div-mul-add}
use Rattle.std.proofs.lemmas.Option.{slice_get_within, get_or_from_slice_get}
use Rattle.cube_core.proofs.Words.{Order, Bsq, Bi, Place, Sizes, sample_count, IsOrder, IsPlaceOf, places, place_index, place_key, IsBefore, slice_get}
use Rattle.cube_core.specs.Laws.{OrderIsByKey, ItemOfIndex, IndexOfItem}
use Rattle.cube_core.proofs.Orders.{StandsAt, place_at_index, length-places, item_from_index, place_index_below}
use Rattle.cube_core.proofs.Raws.{place_of, same_place}

-- ---- the first digit decides, then the second

digits : (w a b x y : ℕ) → x < w → y < w → a * w + x < b * w + y → (a < b) ⊎ ((a ≡ b) × (x < y))
digits w a b x y hx hy lt =
    elim (cases_lt a b) [
      | inl h ↦ inl h
      | inr h ↦ elim (cases_lt b a) [ inl g ↦ absurd (above g) | inr g ↦ inr (omega arith, less (omega arith)) ]
    ]
  where
    above : b < a → ⊥
    above g = let p : suc b * w ≤ a * w = mul-le (suc b) w a w g (omega arith) in omega arith

    less : a ≡ b → x < y
    less e = let p : a * w ≡ b * w = ap (λ (n : ℕ). n * w) e in omega arith

-- ---- band sequential

before_sequential : (s : Sizes) (p q : Place) → IsPlaceOf s p → IsPlaceOf s q → place_index s Bsq p < place_index s Bsq q
    → IsBefore (place_key Bsq p) (place_key Bsq q)
unfolding place_index
before_sequential s p q hp hq lt =
    let inp : p.y * s.columns + p.x < s.columns * s.rows = mul-add-lt p.y s.columns p.x s.rows hp.row hp.column in
    let inq : q.y * s.columns + q.x < s.columns * s.rows = mul-add-lt q.y s.columns q.x s.rows hq.row hq.column in
    elim (digits (s.columns * s.rows) p.z q.z (p.y * s.columns + p.x) (q.y * s.columns + q.x) inp inq (omega arith)) [
      | inl h ↦ inl h
      | inr h ↦ inr (h.0, elim (digits s.columns p.y q.y p.x q.x hp.column hq.column h.1) [ inl k ↦ inl k | inr k ↦ inr (k.0, inl k.1) ])
    ]

-- ---- band interleaved

abbrev in_line : Sizes → ℕ → Place → ℕ
in_line s depth p = p.z / depth * depth * s.columns + (p.x * min depth (s.bands - p.z / depth * depth) + (p.z - p.z / depth * depth))

-- a place's group and what is after it stay within the line
group_end : (s : Sizes) (depth : ℕ) (p : Place) → 1 ≤ depth → IsPlaceOf s p
    → in_line s depth p < (p.z / depth * depth + min depth (s.bands - p.z / depth * depth)) * s.columns
group_end s depth p h hp =
    let low : p.z / depth * depth ≤ p.z = div-mul-le_self p.z depth in
    let high : p.z < p.z / depth * depth + depth = lt-div-mul-add h in
    let size : ℕ = min depth (s.bands - p.z / depth * depth) in
    let inside : p.x * min depth (s.bands - p.z / depth * depth) + (p.z - p.z / depth * depth) < min depth (s.bands - p.z / depth * depth) * s.columns =
    mul-add-lt p.x (min depth (s.bands - p.z / depth * depth)) (p.z - p.z / depth * depth) s.columns hp.column (omega (arith, hp.band)) in
    omega (arith, inside)

line_end : (s : Sizes) (depth : ℕ) (p : Place) → 1 ≤ depth → IsPlaceOf s p → in_line s depth p < s.bands * s.columns
line_end s depth p h hp =
    let low : p.z / depth * depth ≤ p.z = div-mul-le_self p.z depth in
    let fits : (p.z / depth * depth + min depth (s.bands - p.z / depth * depth)) * s.columns ≤ s.bands * s.columns =
    mul-le (p.z / depth * depth + min depth (s.bands - p.z / depth * depth)) s.columns s.bands s.columns (omega (arith, hp.band)) (omega arith) in
    omega (arith, fits, group_end s depth p h hp)

-- a place of an earlier group comes earlier in the line
earlier_group : (s : Sizes) (depth : ℕ) (p q : Place) → 1 ≤ depth → IsPlaceOf s p → p.z / depth < q.z / depth → in_line s depth p < in_line s depth q
earlier_group s depth p q h hp lt =
    let next : suc (p.z / depth) * depth ≤ q.z / depth * depth = mul-le (suc (p.z / depth)) depth (q.z / depth) depth lt (omega arith) in
    let fits : (p.z / depth * depth + min depth (s.bands - p.z / depth * depth)) * s.columns ≤ q.z / depth * depth * s.columns =
    mul-le (p.z / depth * depth + min depth (s.bands - p.z / depth * depth)) s.columns (q.z / depth * depth) s.columns (omega arith) (omega arith) in
    omega (arith, fits, group_end s depth p h hp)

-- within a group a column decides, then the band
before_in_group : (s : Sizes) (depth : ℕ) (p q : Place) → 1 ≤ depth → IsPlaceOf s p → IsPlaceOf s q → p.z / depth ≡ q.z / depth
    → in_line s depth p < in_line s depth q → (p.x < q.x) ⊎ ((p.x ≡ q.x) × (p.z < q.z))
before_in_group s depth p q h hp hq e lt =
    let lowp : p.z / depth * depth ≤ p.z = div-mul-le_self p.z depth in
    let highp : p.z < p.z / depth * depth + depth = lt-div-mul-add h in
    let lowq : q.z / depth * depth ≤ q.z = div-mul-le_self q.z depth in
    let highq : q.z < q.z / depth * depth + depth = lt-div-mul-add h in
    let same : q.z / depth * depth ≡ p.z / depth * depth = ap (λ (n : ℕ). n * depth) (sym e) in
    let less : p.z / depth * depth * s.columns + (p.x * min depth (s.bands - p.z / depth * depth) + (p.z - p.z / depth * depth))
    < p.z / depth * depth * s.columns + (q.x * min depth (s.bands - p.z / depth * depth) + (q.z - p.z / depth * depth)) = rw same at lt in
    elim (digits (min depth (s.bands - p.z / depth * depth)) p.x q.x (p.z - p.z / depth * depth) (q.z - p.z / depth * depth) (omega (arith, hp.band))
    (omega (arith, hq.band)) (omega arith)) [ inl k ↦ inl k | inr k ↦ inr (k.0, omega (arith, k.1)) ]

before_interleaved : (s : Sizes) (depth : ℕ) (p q : Place) → 1 ≤ depth → IsPlaceOf s p → IsPlaceOf s q → place_index s (Bi depth) p < place_index s (Bi depth) q
    → IsBefore (place_key (Bi depth) p) (place_key (Bi depth) q)
unfolding place_index
before_interleaved s depth p q h hp hq lt =
    elim (digits (s.bands * s.columns) p.y q.y (in_line s depth p) (in_line s depth q) (line_end s depth p h hp) (line_end s depth q h hq) (omega arith)) [
      | inl k ↦ inl k
      | inr k ↦ inr (k.0, in_row k.1)
    ]
  where
    in_row : in_line s depth p < in_line s depth q → IsBefore (p.z / depth ∷ p.x ∷ p.z ∷ []) (q.z / depth ∷ q.x ∷ q.z ∷ [])
    in_row less =
        elim (cases_lt (p.z / depth) (q.z / depth)) [
          | inl g ↦ inl g
          | inr g ↦ elim (cases_lt (q.z / depth) (p.z / depth)) [
            | inl k ↦ absurd (omega (arith, earlier_group s depth q p h hq k, less))
            | inr k ↦ inr (omega arith, elim (before_in_group s depth p q h hp hq (omega arith) less) [ inl m ↦ inl m | inr m ↦ inr (m.0, inl m.1) ])
          ]
        ]

-- ---- both

before : (s : Sizes) (o : Order) (p q : Place) → IsOrder s o → IsPlaceOf s p → IsPlaceOf s q → place_index s o p < place_index s o q
    → IsBefore (place_key o p) (place_key o q)
before s Bsq p q lawful hp hq lt = before_sequential s p q hp hq lt
before s (Bi depth) p q lawful hp hq lt = before_interleaved s depth p q lawful.0 hp hq lt

pub item_of_index : ItemOfIndex
item_of_index s o p lawful place = item_from_index s o p (place_index s o p) lawful place refl (place_index_below s o p lawful place)

-- the i-th item stands at i
found : (s : Sizes) (o : Order) (i : ℕ) (p : Place) → IsOrder s o → slice_get (places s o) i ≡ Some p → StandsAt s o p i
found s o i p lawful e =
    let lt : i < sample_count s = omega (arith, slice_get_within (places s o) i p e, length-places s o lawful) in
    let there = place_of s o i lawful lt in
    let item : get_or (places s o) i p ≡ there.0 =
    subst (λ (k : ℕ). get_or (places s o) k p ≡ there.0) there.1.index (place_at_index s o there.0 p lawful there.1.place) in
    subst (λ (q : Place). StandsAt s o q i) (sym item ∙ get_or_from_slice_get (places s o) i p p e) there.1

pub index_of_item : IndexOfItem
index_of_item s o p i lawful e = (found s o i p lawful e).index

pub order_is_by_key : OrderIsByKey
order_is_by_key s o lawful = record {
  all = λ p place. (place_index s o p, item_of_index s o p lawful place);
  only = λ i p e. (found s o i p lawful e).place;
  once = λ i j p e f. sym (index_of_item s o p i lawful e) ∙ index_of_item s o p j lawful f;
  increasing = λ i j p q lt e f. before s o p q lawful (found s o i p lawful e).place (found s o j q lawful f).place
      (omega (arith, lt, index_of_item s o p i lawful e, index_of_item s o q j lawful f));
}

-- ---- and a place of an earlier key stands earlier

before_once : (xs ys : List ℕ) → IsBefore xs ys → IsBefore ys xs → ⊥
before_once [] ys h k = h
before_once (x ∷ xs) [] h k = h
before_once (x ∷ xs) (y ∷ ys) (inl h) (inl k) = absurd (omega arith)
before_once (x ∷ xs) (y ∷ ys) (inl h) (inr k) = absurd (omega (arith, k.0))
before_once (x ∷ xs) (y ∷ ys) (inr h) (inl k) = absurd (omega (arith, h.0))
before_once (x ∷ xs) (y ∷ ys) (inr h) (inr k) = before_once xs ys h.1 k.1

pub key_increases : (s : Sizes) (o : Order) (p q : Place) → IsOrder s o → IsPlaceOf s p → IsPlaceOf s q → IsBefore (place_key o p) (place_key o q)
    → place_index s o p < place_index s o q
key_increases s o p q lawful a b lt = elim (cases_order (place_index s o p) (place_index s o q)) [
  | inl same ↦ (let twice = rw (ap (place_key o) (same_place s o p q lawful a b same)) at lt in absurd (before_once _ _ twice twice))
  | inr (inl h) ↦ h
  | inr (inr h) ↦ absurd (before_once _ _ lt (before s o q p lawful b a h))
]
