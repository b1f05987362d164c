-- The rows in raw bytes have all samples of an image, and where a place stands among them.
use Rattle.std.proofs.Common.{◌≡◌, ◌+◌, ◌*◌, ◌<◌, ℕ, refl, arith}
use Rattle.std.proofs.lemmas.Nat.{mul-add-lt}
use Rattle.cube_core.specs.declared.layout.RawOrder.{RawOrder}
use Rattle.cube_core.specs.declared.layout.RawOrder.TheVariants as raw
use Rattle.cube_core.specs.declared.order.Order.TheVariants.{Bi}
use Rattle.cube_core.specs.declared.order.Place.{Place}
use Rattle.cube_core.specs.Image.{IsPlace}
use Rattle.cube_core.specs.Layout.{order_of}
use Rattle.cube_core.specs.Order.{place_index}
use Rattle.cube_core.specs.Shape.{Sizes, sample_count}
use Rattle.raw_rows.specs.OneRow.{band_in_row, one_row, row_number, rows_of_raw, samples_of_row}

-- ---- all rows

pub same_columns : (o : RawOrder) (s : Sizes) → (rows_of_raw o s).columns ≡ s.columns
same_columns raw.Bsq s = refl
same_columns raw.Bil s = refl
same_columns raw.Bip s = refl

pub same_count : (o : RawOrder) (s : Sizes) → sample_count (rows_of_raw o s) ≡ sample_count s
same_count raw.Bsq s = grind arith
same_count raw.Bil s = refl
same_count raw.Bip s = refl

-- all samples are those of all rows
pub count_by_row : (o : RawOrder) (s : Sizes) → sample_count s ≡ (rows_of_raw o s).rows * samples_of_row (rows_of_raw o s)
count_by_row raw.Bsq s = grind arith
count_by_row raw.Bil s = grind arith
count_by_row raw.Bip s = grind arith

-- ---- a place, and its row

-- the place in a row of its own
abbrev pub row_place : RawOrder → Place → Place
row_place o p = record { z = band_in_row o p.z; y = 0; x = p.x }

pub place_in_row : (o : RawOrder) (s : Sizes) (z y x : ℕ) → IsPlace s z y x → IsPlace (one_row (rows_of_raw o s)) (band_in_row o z) 0 x
place_in_row raw.Bsq s z y x place = record { band = omega arith; row = omega arith; column = place.column }
place_in_row raw.Bil s z y x place = record { band = place.band; row = omega arith; column = place.column }
place_in_row raw.Bip s z y x place = record { band = place.band; row = omega arith; column = place.column }

pub row_number_below : (o : RawOrder) (s : Sizes) (z y x : ℕ) → IsPlace s z y x → row_number o s z y < (rows_of_raw o s).rows
row_number_below raw.Bsq s z y x place =
    let turned : s.rows * s.bands ≡ s.bands * s.rows = grind arith in
    omega (arith, turned, mul-add-lt z s.rows y s.bands place.band place.row)
row_number_below raw.Bil s z y x place = place.row
row_number_below raw.Bip s z y x place = place.row

-- in an interleaved order places go by rows of all bands, and in each row as in a row of its own
index_bi : (s : Sizes) (depth : ℕ) (p : Place)
    → place_index s (Bi depth) p ≡ p.y * samples_of_row s + place_index (one_row s) (Bi depth) (record { z = p.z; y = 0; x = p.x })
unfolding place_index
index_bi s depth p = grind arith

-- in each raw order places go by its rows
pub index_by_row : (o : RawOrder) (s : Sizes) (p : Place) → place_index s (order_of o s) p ≡ row_number o s p.z p.y * samples_of_row (rows_of_raw o s)
    + place_index (one_row (rows_of_raw o s)) (order_of o (one_row (rows_of_raw o s))) (row_place o p)
unfolding place_index
index_by_row raw.Bsq s p = grind arith
index_by_row raw.Bil s p = index_bi s 1 p
index_by_row raw.Bip s p = index_bi s s.bands p
