-- How the places of a band, and those of a row, follow one another in encoding order.
use Rattle.std.specs.Prelude.{ℕ, suc, ◌≡◌, ◌+◌, ◌*◌, ◌<◌, ◌↔◌, List, slice_get, Some}
use Rattle.cube_core.specs.declared.order.Order.{Order}
use Rattle.cube_core.specs.declared.order.Place.{Place}
use Rattle.cube_core.specs.Shape.{Sizes}
use Rattle.cube_core.specs.Order.{IsPlaceOf, place_index}

-- of band z, the first i places in encoding order are exactly its first t places in raster order
abbrev pub HasCome : Sizes → Order → ℕ → ℕ → ℕ → Type 0
HasCome s o z i t = (p : Place) → IsPlaceOf s p → p.z ≡ z → (place_index s o p < i) ↔ (p.y * s.columns + p.x < t)

-- each place that isn't the last of its row is followed by the next place of the row
abbrev pub AreByRows : ℕ → List Place → Type 0
AreByRows columns ps = (i : ℕ) (q : Place) → slice_get ps i ≡ Some q → q.x + 1 < columns
    → slice_get ps (suc i) ≡ Some (record { z = q.z; y = q.y; x = q.x + 1 })
