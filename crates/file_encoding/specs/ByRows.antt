-- The encoder that is handed the rows of an image: of all bands at once in an interleaved order, or of one band after another.
use Rattle.std.specs.Prelude.{ℕ, ◌≡◌, ◌+◌, ◌*◌, ◌^◌, ◌<◌, ◌≤◌, List, length, slice_index_or}
use Rattle.std.specs.List.{AllByRecursion}
use Rattle.cube_core.specs.declared.order.Order.{Order}
use Rattle.cube_core.specs.declared.order.Order.TheVariants.{Bsq, Bi}
use Rattle.cube_core.specs.Shape.{Sizes}
use Rattle.cube_core.specs.Kind.{SampleKind, sample_of}
use Rattle.cube_core.specs.Image.{Image, IsCube, IsPlace, sample_at}
use Rattle.header_bits.specs.declared.params.Params.{Params}
use Rattle.header_bits.specs.Lawful.{IsLawful}
use Rattle.sample_prediction.specs.HandedRows.{image_of_rows, row_size}
use Rattle.file_format.specs.File.{file_of}
use Rattle.file_encoding.specs.ByLines.{AreAllLines, AreLinesUnderWay}
use Rattle.file_encoding.specs.ByPlanes.{AreAllPlanes, ArePlanesUnderWay, image_of_planes}
use Rattle.file_encoding.specs.declared.row_encoder.Walk.{Walk}
use Rattle.file_encoding.specs.declared.row_encoder.Walk.TheVariants as walk

-- ---- rows in the order in which they are handed over

-- the sizes of an image by these rows: with all bands, or as one band that has the rows of all of them
abbrev pub rows_of_order : Order → Sizes → Sizes
rows_of_order Bsq s = record { columns = s.columns; rows = s.bands * s.rows; bands = 1 }
rows_of_order (Bi depth) s = s

-- the number of the row that a place is in, and which band of that row is its own
abbrev pub row_of_place : Order → Sizes → ℕ → ℕ → ℕ
row_of_place Bsq s z y = z * s.rows + y
row_of_place (Bi depth) s z y = y

abbrev pub band_in_row : Order → ℕ → ℕ
band_in_row Bsq z = 0
band_in_row (Bi depth) z = z

-- the index of a place's sample among those of all rows
abbrev pub index_handed : Order → Sizes → ℕ → ℕ → ℕ → ℕ
index_handed o s z y x = row_of_place o s z y * row_size (rows_of_order o s) + (band_in_row o z * s.columns + x)

-- an image's rows are these, each sample as its offset s - s_min
abbrev pub HasRows : Order → Image → List ℕ → Type 0
HasRows o c offsets =
    (z y x : ℕ) → IsPlace c.shape z y x → sample_at c z y x ≡ sample_of c.kind (slice_index_or offsets (index_handed o c.shape z y x) 0)

-- the bytes are the file of every cube with these rows
abbrev pub IsFileOfRows : Params → List ℕ → List ℕ → Type 0
IsFileOfRows p offsets bytes =
    (c : Image) → IsCube c → c.shape ≡ p.shape → c.kind ≡ p.kind → HasRows p.order c offsets → bytes ≡ file_of c p

-- the image that has the rows so far, and the least sample of the kind in all others
abbrev pub image_in : Order → Sizes → SampleKind → List ℕ → Image
image_in Bsq s k offsets = image_of_planes s k offsets
image_in (Bi depth) s k offsets = image_of_rows s k offsets

abbrev pub image_so_far : Params → List ℕ → Image
image_so_far p offsets = image_in p.order p.shape p.kind offsets

-- ---- the encoder

-- the number of rows so far, their samples, and how far the walk has come
pub record RowEncoderState : Type 0 where
  pub y : ℕ
  pub offsets : List ℕ
  pub walk : Walk

abbrev pub rows_walked : Walk → ℕ
rows_walked (walk.Lines e) = e.y
rows_walked (walk.Planes e) = e.y

abbrev pub rows_handed : Walk → List ℕ
rows_handed (walk.Lines e) = e.offsets
rows_handed (walk.Planes e) = e.offsets

-- the residuals of the rows so far were coded, as far as their walk has them
abbrev pub IsWalking : Params → Walk → Type 0
IsWalking p (walk.Lines e) = AreLinesUnderWay p e
IsWalking p (walk.Planes e) = ArePlanesUnderWay p e

pub record IsUnderWay (p : Params) (e : RowEncoderState) : Type 0 where
  pub lawful : IsLawful p
  pub row : e.y ≤ (rows_of_order p.order p.shape).rows
  pub size : length e.offsets ≡ e.y * row_size (rows_of_order p.order p.shape)
  pub range : AllByRecursion (λ v. v < 2 ^ p.kind.bits) e.offsets
  pub walking : IsWalking p e.walk
  pub rows_are : e.y ≡ rows_walked e.walk
  pub offsets_are : e.offsets ≡ rows_handed e.walk

-- all rows of an image were handed over
abbrev pub AreAllWalked : Walk → Type 0
AreAllWalked (walk.Lines e) = AreAllLines e
AreAllWalked (walk.Planes e) = AreAllPlanes e

abbrev pub AreAllRows : RowEncoderState → Type 0
AreAllRows e = AreAllWalked e.walk
