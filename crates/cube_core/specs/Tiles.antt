-- Places that follow one another in encoding order: columns of one row, each with the same bands.
use Rattle.std.specs.Prelude.{ℕ, ◌≡◌, ◌+◌, ◌*◌, ◌<◌, ◌≤◌}
use Rattle.cube_core.specs.declared.order.Order.{Order}
use Rattle.cube_core.specs.declared.order.Order.TheVariants.{Bsq, Bi}
use Rattle.cube_core.specs.declared.order.Place.{Place}
use Rattle.cube_core.specs.Shape.{Sizes}
use Rattle.cube_core.specs.Order.{IsPlaceOf, place_index}

-- a bound on the number of bands in a group: 1 in band sequential order, otherwise the depth
abbrev pub most_bands : Order → ℕ
most_bands Bsq = 1
most_bands (Bi depth) = depth

-- the place i columns and b bands further on
abbrev pub place_in : Place → ℕ → ℕ → Place
place_in q i b = record { z = q.z + b; y = q.y; x = q.x + i }

-- `width` columns of `depth` bands each, from place q on, whose places follow one another in encoding order: column after column, each by increasing band
pub record IsTiled (s : Sizes) (o : Order) (q : Place) (width depth : ℕ) : Type 0 where
  pub place : IsPlaceOf s q
  pub some : (1 ≤ width) × (1 ≤ depth)
  pub columns : q.x + width ≤ s.columns
  pub bands : q.z + depth ≤ s.bands
  pub index : (i b : ℕ) → i < width → b < depth → place_index s o (place_in q i b) ≡ place_index s o q + (i * depth + b)
