-- Parts of raw samples: whole units, one after another.
use Rattle.std.specs.Prelude.{ℕ, ◌≡◌, ◌+◌, ◌-◌, ◌*◌, ◌<◌, ◌≤◌, ◌^◌, List, slice_index}
use Rattle.cube_core.specs.declared.layout.Layout.{Layout}
use Rattle.cube_core.specs.declared.layout.RawOrder.{RawOrder}
use Rattle.cube_core.specs.declared.layout.RawOrder.TheVariants as raw
use Rattle.cube_core.specs.declared.order.Order.{Order}
use Rattle.cube_core.specs.declared.order.Place.{Place}
use Rattle.cube_core.specs.declared.part.Part.{Part}
use Rattle.cube_core.specs.Shape.{Sizes, sample_count}
use Rattle.cube_core.specs.Kind.{SampleKind, sample_of}
use Rattle.cube_core.specs.Image.{index_in}
use Rattle.cube_core.specs.Order.{IsPlaceOf, place_index}
use Rattle.cube_core.specs.Layout.{order_of, raw_value, bytes_at, sample_bytes, HasBytes}
use Rattle.cube_core.specs.Pieces.{sample_by}

-- how many samples a unit has: one, a row of one band, or those of all bands at one row and column
abbrev pub unit_of : RawOrder → Sizes → ℕ
unit_of raw.Bsq s = 1
unit_of raw.Bil s = s.columns
unit_of raw.Bip s = s.bands

-- how many units there are
abbrev pub unit_count : RawOrder → Sizes → ℕ
unit_count raw.Bsq s = sample_count s
unit_count raw.Bil s = s.rows * s.bands
unit_count raw.Bip s = s.rows * s.columns

-- the units of a part are among those of a cube
abbrev pub IsPart : Layout → Sizes → Part → Type 0
IsPart l s part = part.first + part.count ≤ unit_count l.order s

-- the index of a part's first sample in the layout's order, and how many samples it has
abbrev pub first_sample : Layout → Sizes → Part → ℕ
first_sample l s part = part.first * unit_of l.order s

abbrev pub part_samples : Layout → Sizes → Part → ℕ
part_samples l s part = part.count * unit_of l.order s

-- `count` samples that follow one another in the cube, from index `at` on, are among the n samples of a part, whose first one is the `from`-th in the
-- order: at `first`, `first + step`, .. of it
pub record IsPieceOf (s : Sizes) (o : Order) (from n at count first step : ℕ) : Type 0 where
  pub items : (p : Place) → IsPlaceOf s p → (j : ℕ) → j < count → index_in s.columns s.rows p.z p.y p.x ≡ at + j
      → place_index s o p ≡ from + (first + j * step)
  pub room : at + count ≤ sample_count s
  pub within : (j : ℕ) → j < count → first + j * step < n

-- the offset at a place before a part is as before; and one in the part is below 2^D, and is that of the sample which the place's bytes spell
pub record IsReadAt (s : Sizes) (k : SampleKind) (l : Layout) (from : ℕ) (bytes old new : List ℕ) (p : Place) : Type 0 where
  pub before : place_index s (order_of l.order s) p < from
      → slice_index new (index_in s.columns s.rows p.z p.y p.x) ≡ slice_index old (index_in s.columns s.rows p.z p.y p.x)
  pub below : from ≤ place_index s (order_of l.order s) p → slice_index new (index_in s.columns s.rows p.z p.y p.x) < 2 ^ k.bits
  pub value : from ≤ place_index s (order_of l.order s) p → sample_of k (slice_index new (index_in s.columns s.rows p.z p.y p.x))
      ≡ raw_value l k (bytes_at l bytes (place_index s (order_of l.order s) p - from))

-- the same at every place up to the n-th of the part
abbrev pub AreReadTo : Sizes → SampleKind → Layout → ℕ → ℕ → List ℕ → List ℕ → List ℕ → Type 0
AreReadTo s k l from n bytes old new =
    (p : Place) → IsPlaceOf s p → place_index s (order_of l.order s) p < from + n → IsReadAt s k l from bytes old new p

-- the sample at a place of a part fits in its bytes, which stand at its index in the part
pub record IsWrittenAt (s : Sizes) (k : SampleKind) (l : Layout) (from : ℕ) (offsets bytes : List ℕ) (p : Place) : Type 0 where
  pub fits : from ≤ place_index s (order_of l.order s) p → HasBytes k l (sample_by s k offsets p)
  pub there : from ≤ place_index s (order_of l.order s) p
      → bytes_at l bytes (place_index s (order_of l.order s) p - from) ≡ sample_bytes l (sample_by s k offsets p)

-- the same at every place up to the n-th of the part
abbrev pub AreWrittenTo : Sizes → SampleKind → Layout → ℕ → ℕ → List ℕ → List ℕ → Type 0
AreWrittenTo s k l from n offsets bytes =
    (p : Place) → IsPlaceOf s p → place_index s (order_of l.order s) p < from + n → IsWrittenAt s k l from offsets bytes p
