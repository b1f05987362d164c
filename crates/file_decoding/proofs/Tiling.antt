-- Places that follow one another from a place on: whole columns of a group, or the rest of one column.
use Rattle.std.proofs.Common.{◌≡◌, ◌⊎◌, ◌+◌, ◌-◌, ◌*◌, ◌/◌, ◌<◌, ◌≤◌, ℕ, min, refl, sym, inl, inr, arith}
use Rattle.std.proofs.Math.Nat.{div-mul-le_self, lt-div-mul-add, div-one}
use Rattle.cube_core.specs.declared.order.Order.{Order}
use Rattle.cube_core.specs.declared.order.Order.TheVariants.{Bsq, Bi}
use Rattle.cube_core.specs.declared.order.Place.{Place}
use Rattle.cube_core.specs.Order.{IsOrder, IsPlaceOf, place_index}
use Rattle.cube_core.specs.Shape.{Sizes}
use Rattle.cube_core.specs.Tiles.{IsTiled, most_bands, place_in}
use Rattle.cube_core.proofs.Walks.{group_kept}

-- whole columns of a group, or a part of one
index_in_tile : (s : Sizes) (o : Order) (q : Place) (width depth : ℕ) → IsOrder s o → IsPlaceOf s q
    → depth ≡ min s.bands (q.z / most_bands o * most_bands o + most_bands o) - q.z → (width ≡ 1) ⊎ (q.z ≡ q.z / most_bands o * most_bands o)
    → (i b : ℕ) → i < width → b < depth → place_index s o (place_in q i b) ≡ place_index s o q + (i * depth + b)
unfolding place_index
index_in_tile s Bsq q width depth lawful place is case i b column band =
    let one : depth ≡ 1 = omega (arith, is, div-one q.z, place.band) in
    let none : b ≡ 0 = omega (arith, band, one) in
    rw (one, none) (omega arith)
index_in_tile s (Bi size) q width depth lawful place is case i b column band =
    let low = div-mul-le_self q.z size in
    let group : (q.z + b) / size * size ≡ q.z / size * size =
    sym (group_kept size (q.z / size * size) q.z (q.z + b) refl (omega (arith, low)) (omega (arith, is, band))) in
    rw group (elim case [
      | inl one ↦ (let none : i ≡ 0 = omega (arith, one, column) in rw none (omega (arith, low)))
      | inr start ↦ (let whole : depth ≡ min size (s.bands - q.z / size * size) = omega (arith, is, start, low) in rw whole (omega (arith, low)))
    ])

some_bands : (s : Sizes) (o : Order) → IsOrder s o → 1 ≤ most_bands o
some_bands s Bsq lawful = omega arith
some_bands s (Bi depth) lawful = lawful.0

-- some columns of all bands of a group, or the rest of one column
pub is_tiled : (s : Sizes) (o : Order) (q : Place) (width depth : ℕ) → IsOrder s o → IsPlaceOf s q → 1 ≤ width → q.x + width ≤ s.columns
    → depth ≡ min s.bands (q.z / most_bands o * most_bands o + most_bands o) - q.z → (width ≡ 1) ⊎ (q.z ≡ q.z / most_bands o * most_bands o)
    → IsTiled s o q width depth × (depth ≤ most_bands o)
is_tiled s o q width depth lawful place some fits is case =
    let low = div-mul-le_self q.z (most_bands o) in
    let high : q.z < q.z / most_bands o * most_bands o + most_bands o = lt-div-mul-add (some_bands s o lawful) in
    let all : IsTiled s o q width depth = record {
      place = place;
      some = (some, omega (arith, is, high, place.band));
      columns = fits;
      bands = omega (arith, is, high, place.band);
      index = index_in_tile _ _ _ _ _ lawful place is case;
    } in
    (all, omega (arith, is, low))
