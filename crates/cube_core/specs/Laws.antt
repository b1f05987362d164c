-- Laws of the encoding order, and of raw bytes.
use Rattle.std.specs.Prelude.{ℕ, ℤ, ◌≡◌, ◌*◌, ◌<◌, ◌≤◌, List, Some, slice_get}
use Rattle.cube_core.specs.declared.order.Order.{Order}
use Rattle.cube_core.specs.declared.order.Place.{Place}
use Rattle.cube_core.specs.declared.layout.Layout.{Layout}
use Rattle.cube_core.specs.Shape.{Sizes}
use Rattle.cube_core.specs.Kind.{SampleKind, IsKind, IsSample}
use Rattle.cube_core.specs.Layout.{HasBytes}
use Rattle.cube_core.specs.Order.{IsOrder, IsPlaceOf, places, place_index, place_key, IsBefore}

-- a list that holds each place once, and nothing else, by strictly increasing keys
pub record AreByKey (s : Sizes) (o : Order) (ps : List Place) : Type 0 where
  pub all : (p : Place) → IsPlaceOf s p → (i : ℕ) × (slice_get ps i ≡ Some p)
  pub only : (i : ℕ) (p : Place) → slice_get ps i ≡ Some p → IsPlaceOf s p
  pub once : (i j : ℕ) (p : Place) → slice_get ps i ≡ Some p → slice_get ps j ≡ Some p → i ≡ j
  pub increasing : (i j : ℕ) (p q : Place) → i < j → slice_get ps i ≡ Some p → slice_get ps j ≡ Some q → IsBefore (place_key o p) (place_key o q)

-- the encoding order is the order of the keys, for each depth
abbrev pub OrderIsByKey : Type 0
OrderIsByKey = (s : Sizes) (o : Order) → IsOrder s o → AreByKey s o (places s o)

-- the item at the index of a place is the place
abbrev pub ItemOfIndex : Type 0
ItemOfIndex = (s : Sizes) (o : Order) (p : Place) → IsOrder s o → IsPlaceOf s p → slice_get (places s o) (place_index s o p) ≡ Some p

-- the index of the i-th item is i
abbrev pub IndexOfItem : Type 0
IndexOfItem = (s : Sizes) (o : Order) (p : Place) (i : ℕ) → IsOrder s o → slice_get (places s o) i ≡ Some p → place_index s o p ≡ i

-- two bytes can spell each sample, and one byte each sample of at most eight bits
abbrev pub WideEnough : Type 0
WideEnough = (k : SampleKind) (l : Layout) (v : ℤ) → IsKind k → k.bits ≤ 8 * l.bytes → IsSample k v → HasBytes k l v
