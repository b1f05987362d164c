-- The places of one band come in the order of their rows and columns, so that each band comes along with the walk.
use Rattle.std.proofs.Common.{◌≡◌, ◌≢◌, ◌⊎◌, ◌+◌, ◌*◌, ◌/◌, ◌%◌, ◌<◌, ◌≤◌, ℕ, suc, refl, sym, ap, ◌∙◌, inl, inr, arith}
use Rattle.std.proofs.lemmas.Nat.{mul-le, mul-add-lt, div_below, mod_below, div-add-mod'}
use Rattle.std.proofs.lemmas.Bool.{cases_lt, cases_order}
use Rattle.cube_core.proofs.Words.{Order, Bsq, Bi, Place, Sizes, IsOrder, IsPlaceOf, IsBefore, place_index, place_key, HasCome}
use Rattle.cube_core.proofs.Keys.{item_of_index, order_is_by_key}
use Rattle.cube_core.proofs.Orders.{StandsAt}
use Rattle.cube_core.proofs.Raws.{same_place}

-- where a place stands in its band
abbrev pub time_of : Sizes → Place → ℕ
time_of s p = p.y * s.columns + p.x

-- a later row, or a later column of the same row
earlier : (columns y x y' x' : ℕ) → x < columns → (y < y') ⊎ ((y ≡ y') × (x < x')) → y * columns + x < y' * columns + x'
earlier columns y x y' x' a (inl h) = let line : suc y * columns ≤ y' * columns = mul-le (suc y) columns y' columns h (omega arith) in omega (arith, line)
earlier columns y x y' x' a (inr (h, k)) = rw h (omega (arith, k))

by_key : (o : Order) (p q : Place) → p.z ≡ q.z → IsBefore (place_key o p) (place_key o q) → (p.y < q.y) ⊎ ((p.y ≡ q.y) × (p.x < q.x))
by_key Bsq p q e before = grind arith
by_key (Bi depth) p q e before = grind (arith, ap (λ n. n / depth) e)

-- of two places of one band the one that comes later in the order comes later in the band
pub time_increases : (s : Sizes) (o : Order) (p q : Place) → IsOrder s o → IsPlaceOf s p → IsPlaceOf s q → p.z ≡ q.z → place_index s o p < place_index s o q
    → time_of s p < time_of s q
time_increases s o p q lawful a b e lt =
    let before =
    (order_is_by_key s o lawful).increasing (place_index s o p) (place_index s o q) p q lt (item_of_index s o p lawful a) (item_of_index s o q lawful b) in
    earlier s.columns p.y p.x q.y q.x a.column (by_key o p q e before)

-- and the other way round
pub index_increases : (s : Sizes) (o : Order) (p q : Place) → IsOrder s o → IsPlaceOf s p → IsPlaceOf s q → p.z ≡ q.z → time_of s p < time_of s q
    → place_index s o p < place_index s o q
index_increases s o p q lawful a b e lt = elim (cases_order (place_index s o p) (place_index s o q)) [
  | inl h ↦ absurd (omega (arith, lt, ap (time_of s) (same_place s o p q lawful a b h)))
  | inr (inl h) ↦ h
  | inr (inr h) ↦ absurd (omega (arith, lt, time_increases s o q p lawful b a (sym e) h))
]

-- ---- a band comes along

pub come_start : (s : Sizes) (o : Order) (z : ℕ) → HasCome s o z 0 0
come_start s o z p place e = (λ h. absurd (omega (arith, h)), λ h. absurd (omega (arith, h)))

-- some place of the band stands at each earlier time
place_at_time : (s : Sizes) (p : Place) → IsPlaceOf s p → (t : ℕ) → t < time_of s p → (q : Place) × IsPlaceOf s q × (q.z ≡ p.z) × (time_of s q ≡ t)
place_at_time s p place t lt =
    let some : 0 < s.columns = omega (arith, place.column) in
    let within : p.y * s.columns + p.x < s.columns * s.rows = mul-add-lt p.y s.columns p.x s.rows place.row place.column in
    let q : Place = record { z = p.z; y = t / s.columns; x = t % s.columns } in
    let row : t / s.columns < s.rows = div_below t s.columns s.rows some (omega (arith, within)) in
    (q, record { band = place.band; row = row; column = mod_below t s.columns some }, refl, div-add-mod' t s.columns)

-- where the walk stands at a place of the band, the band stands there
pub come_here : (s : Sizes) (o : Order) (z i t : ℕ) (p : Place) → IsOrder s o → HasCome s o z i t → StandsAt s o p i → p.z ≡ z → time_of s p ≡ t
come_here s o z i t p lawful come stands e = elim (cases_order (time_of s p) t) [ inl h ↦ h | inr (inl h) ↦ absurd (early h) | inr (inr h) ↦ absurd (late h) ]
  where
    early : time_of s p < t → ⊥
    early h = let g = (come p stands.place e).1 h in omega (arith, g, stands.index)

    late : t < time_of s p → ⊥
    late h =
        let there = place_at_time s p stands.place t h in
        let g = index_increases s o there.0 p lawful there.1 stands.place there.2 (omega (arith, there.3, h)) in
        let k = (come there.0 there.1 (there.2 ∙ e)).0 (omega (arith, g, stands.index)) in
        omega (arith, k, there.3)

pub come_step : (s : Sizes) (o : Order) (z i t : ℕ) (p : Place) → IsOrder s o → HasCome s o z i t → StandsAt s o p i → p.z ≡ z → HasCome s o z (i + 1) (t + 1)
come_step s o z i t p lawful come stands e q place f = (forth, back)
  where
    here : time_of s p ≡ t
    here = come_here s o z i t p lawful come stands e

    forth : place_index s o q < i + 1 → time_of s q < t + 1
    forth h = elim (cases_lt (time_of s p) (time_of s q)) [
      | inl lt ↦ absurd (omega (arith, h, stands.index, index_increases s o p q lawful stands.place place (e ∙ sym f) lt))
      | inr ge ↦ omega (arith, ge, here)
    ]

    back : time_of s q < t + 1 → place_index s o q < i + 1
    back h = elim (cases_lt (place_index s o p) (place_index s o q)) [
      | inl lt ↦ absurd (omega (arith, h, here, time_increases s o p q lawful stands.place place (e ∙ sym f) lt))
      | inr ge ↦ omega (arith, ge, stands.index)
    ]

pub come_other : (s : Sizes) (o : Order) (z i t : ℕ) (p : Place) → IsOrder s o → HasCome s o z i t → StandsAt s o p i → p.z ≢ z → HasCome s o z (i + 1) t
come_other s o z i t p lawful come stands apart q place f = (forth, back)
  where
    forth : place_index s o q < i + 1 → time_of s q < t
    forth h = elim (cases_lt (place_index s o q) i) [
      | inl lt ↦ (come q place f).0 lt
      | inr ge ↦ absurd (apart (ap (λ (r : Place). r.z) (sym (same_place s o q p lawful place stands.place (omega (arith, ge, h, stands.index)))) ∙ f))
    ]

    back : time_of s q < t → place_index s o q < i + 1
    back h = let g = (come q place f).1 h in omega (arith, g)
