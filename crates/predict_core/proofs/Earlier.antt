-- Earlier is before, in each order.
use Rattle.std.proofs.Common.{◌≡◌, ◌⊎◌, inl, inr, ◌+◌, ◌*◌, ◌/◌, ◌<◌, ◌≤◌, ℕ, suc, [], ◌∷◌}
use Rattle.std.proofs.Common.{arith, ap, mul-le-mul_right}
use Rattle.std.proofs.Math.Nat.{div-mul-le_self, div-zero}
use Rattle.std.proofs.lemmas.Nat.{le-div}
use Rattle.std.proofs.lemmas.Bool.{cases_lt, cases_order}
use Rattle.cube_core.specs.Shape.{Sizes}
use Rattle.cube_core.specs.Order.{IsOrder, IsPlaceOf, place_index, place_key, IsBefore}
use Rattle.cube_core.specs.declared.order.Order.{Order}
use Rattle.cube_core.specs.declared.order.Order.TheVariants.{Bsq, Bi}
use Rattle.cube_core.specs.declared.order.Place.{Place}
use Rattle.cube_core.proofs.Come.{time_of, time_increases}
use Rattle.cube_core.proofs.Keys.{key_increases}
use Rattle.predict_core.specs.Precedence.{IsEarlier}

row_order : (columns y x y' x' : ℕ) → x < columns → x' < columns → y' * columns + x' ≤ y * columns + x → (y' < y) ⊎ ((y' ≡ y) × (x' ≤ x))
row_order columns y x y' x' h k l = elim (cases_order y' y) [ inl e ↦ inr (e, same e) | inr s ↦ elim s [ inl a ↦ inl a | inr a ↦ absurd (not_above a) ] ]
  where
    same : y' ≡ y → x' ≤ x
    same e = let f : y' * columns ≡ y * columns = ap (λ n. n * columns) e in omega (arith, f)

    not_above : y < y' → ⊥
    not_above a = let f : suc y * columns ≤ y' * columns = mul-le-mul_right columns a in omega (arith, f)

div_le : (a b k : ℕ) → a ≤ b → a / k ≤ b / k
div_le a b k h = elim (cases_lt 0 k) [ inl l ↦ le-div (a / k) b k l (omega (arith, div-mul-le_self a k)) | inr l ↦ none (omega arith) ]
  where
    none : k ≡ 0 → a / k ≤ b / k
    none e = rw (e, div-zero a) (omega arith)

same_row : (columns y x y' x' : ℕ) → y' ≡ y → y' * columns + x' < y * columns + x → x' < x
same_row columns y x y' x' e l = let f : y' * columns ≡ y * columns = ap (λ n. n * columns) e in omega (arith, f)

by_bands : (columns z y x z' y' x' : ℕ) → x < columns → x' < columns → IsEarlier z (y * columns + x) z' (y' * columns + x')
    → IsBefore (z' ∷ y' ∷ x' ∷ []) (z ∷ y ∷ x ∷ [])
by_bands columns z y x z' y' x' h k (inl (b, l)) = inl b
by_bands columns z y x z' y' x' h k (inr (b, l)) =
    inr (b, elim (row_order columns y x y' x' h k (omega arith)) [ inl a ↦ inl a | inr q ↦ inr (q.0, inl (same_row columns y x y' x' q.0 l)) ])

-- z' is not above z: then its group is not above z's
by_groups : (m columns z y x z' y' x' : ℕ) → x < columns → x' < columns → IsEarlier z (y * columns + x) z' (y' * columns + x')
    → IsBefore (y' ∷ z' / m ∷ x' ∷ z' ∷ []) (y ∷ z / m ∷ x ∷ z ∷ [])
by_groups m columns z y x z' y' x' h k (inl (b, l)) =
    let rows = row_order columns y x y' x' h k l in let groups = div_le z' z m (omega arith) in grind (arith, rows, groups)
by_groups m columns z y x z' y' x' h k (inr (b, l)) =
    let rows = row_order columns y x y' x' h k (omega arith) in let row = λ (e : y' ≡ y). same_row columns y x y' x' e l in
    grind (arith, rows, row, ap (λ n. n / m) b)

pub before_is : (order : Order) (columns : ℕ) (place earlier : Place) → place.x < columns → earlier.x < columns
    → IsEarlier place.z (place.y * columns + place.x) earlier.z (earlier.y * columns + earlier.x) → IsBefore (place_key order earlier) (place_key order place)
before_is Bsq columns place earlier h k e = by_bands columns place.z place.y place.x earlier.z earlier.y earlier.x h k e
before_is (Bi depth) columns place earlier h k e = by_groups depth columns place.z place.y place.x earlier.z earlier.y earlier.x h k e

-- a place that stands no further in its band than one of that band or of one above stands no further in the order
pub low_index : (s : Sizes) (o : Order) (p q : Place) → IsOrder s o → IsPlaceOf s p → IsPlaceOf s q → p.z ≤ q.z → time_of s p ≤ time_of s q
    → place_index s o p ≤ place_index s o q
low_index s o p q lawful a b low le = elim (cases_lt p.z q.z) [
  | inl below ↦ (let g = key_increases s o p q lawful a b (before_is o s.columns q p b.column a.column (inl (below, le))) in omega arith)
  | inr same ↦ elim (cases_lt (place_index s o q) (place_index s o p)) [
    | inl lt ↦ absurd (omega (arith, le, time_increases s o q p lawful b a (omega (arith, low, same)) lt))
    | inr not ↦ not
  ]
]
