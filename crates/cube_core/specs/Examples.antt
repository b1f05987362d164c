-- Sizes, kinds, layouts and images of the worked examples.
use Rattle.std.specs.Prelude.{ℕ, Bool, true, false, ℤ, pos, [], ◌∷◌, map}
use Rattle.cube_core.specs.declared.layout.Layout.{Layout}
use Rattle.cube_core.specs.declared.layout.RawOrder.{RawOrder}
use Rattle.cube_core.specs.declared.order.Place.{Place}
use Rattle.cube_core.specs.Shape.{Sizes}
use Rattle.cube_core.specs.Kind.{SampleKind}
use Rattle.cube_core.specs.Image.{Image}
use Rattle.cube_core.specs.Order.{upto}

-- columns, rows and bands
abbrev pub sizes : ℕ → ℕ → ℕ → Sizes
sizes columns rows bands = record { columns = columns; rows = rows; bands = bands }

-- band, row and column
abbrev pub place : ℕ → ℕ → ℕ → Place
place z y x = record { z = z; y = y; x = x }

abbrev pub unsigned : ℕ → SampleKind
unsigned bits = record { signed = false; bits = bits }

abbrev pub signed : ℕ → SampleKind
signed bits = record { signed = true; bits = bits }

abbrev pub layout : RawOrder → ℕ → Bool → Layout
layout order bytes little = record { order = order; bytes = bytes; little = little }

-- a lone sample
abbrev pub lone : SampleKind → ℤ → Image
lone k v = record { shape = sizes 1 1 1; kind = k; samples = v ∷ [] }

-- two bands of two rows of three columns, whose samples are their own indices in the list
abbrev pub numbered : Image
numbered = record { shape = sizes 3 2 2; kind = unsigned 8; samples = map pos (upto 12) }
