-- A walk over the places in encoding order.
use Rattle.std.specs.Prelude.{◌≡◌, ℕ, ◌+◌, ◌-◌, ◌*◌, ◌/◌, ◌<◌, ◌≤◌, min, List, drop}
use Rattle.cube_core.specs.declared.order.Order.{Order}
use Rattle.cube_core.specs.declared.order.Order.TheVariants.{Bsq, Bi}
use Rattle.cube_core.specs.declared.order.Place.{Place}
use Rattle.cube_core.specs.declared.cursor.Spot.{Spot}
use Rattle.cube_core.specs.Shape.{Sizes, sample_count}
use Rattle.cube_core.specs.Order.{IsOrder, IsPlaceOf, place_index, places}

-- a place and, under interleaving, the first band of its group and the band after the group's last
abbrev pub IsSpot : Sizes → Order → Spot → Type 0
IsSpot s Bsq p = IsPlaceOf s p.place
IsSpot s (Bi depth) p = IsPlaceOf s p.place × (p.first ≡ p.place.z / depth * depth) × (p.end ≡ min (p.first + depth) s.bands)

-- `left` places are still to come, and the spot is the first of them, if there is one
pub record IsWalk (s : Sizes) (o : Order) (p : Spot) (left : ℕ) : Type 0 where
  pub lawful : IsOrder s o
  pub few : left ≤ sample_count s
  pub spot : 0 < left → IsSpot s o p × (place_index s o p.place + left ≡ sample_count s)

-- the last `left` places of the encoding order
unfoldable pub places_left : Sizes → Order → ℕ → List Place
places_left s o left = drop (sample_count s - left) (places s o)
