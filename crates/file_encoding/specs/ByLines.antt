-- The encoder that is handed an image row by row.
use Rattle.std.specs.Prelude.{ℕ, ◌≡◌, ◌-◌, ◌*◌, ◌^◌, ◌<◌, ◌≤◌, List, [], length, drop, slice_index_or}
use Rattle.std.specs.List.{flat_map, AllByRecursion}
use Rattle.cube_core.specs.declared.order.Order.{Order}
use Rattle.cube_core.specs.declared.order.Order.TheVariants.{Bsq, Bi}
use Rattle.cube_core.specs.Kind.{sample_of}
use Rattle.cube_core.specs.Image.{Image, IsCube, IsPlace, sample_at}
use Rattle.cube_core.specs.Order.{upto}
use Rattle.header_bits.specs.declared.params.Params.{Params}
use Rattle.header_bits.specs.Lawful.{IsLawful}
use Rattle.sample_prediction.specs.HandedRows.{image_of_rows, index_by_rows, row_size}
use Rattle.predict_core.specs.Following.{PredictorState}
use Rattle.file_format.specs.File.{file_of}
use Rattle.file_encoding.specs.Ends.{FileEncoderState, HasCoded}
use Rattle.file_encoding.specs.Own.{line_of}
use Rattle.file_encoding.specs.Walks.{AreAt, bands_of}

-- an order by row, in which bands are interleaved
abbrev pub IsInterleaved : Order → Type 0
IsInterleaved Bsq = ⊥
IsInterleaved (Bi depth) = Unit {0}

-- an image's rows are these: row after row, and in each row band after band, each sample as its offset s - s_min
abbrev pub HasLines : Image → List ℕ → Type 0
HasLines c offsets =
    (z y x : ℕ) → IsPlace c.shape z y x → sample_at c z y x ≡ sample_of c.kind (slice_index_or offsets (index_by_rows c.shape z y x) 0)

-- the bytes are the file of every cube with these rows
abbrev pub IsFileOfLines : Params → List ℕ → List ℕ → Type 0
IsFileOfLines p offsets bytes =
    (c : Image) → IsCube c → c.shape ≡ p.shape → c.kind ≡ p.kind → HasLines c offsets → bytes ≡ file_of c p

-- the number of rows so far and their offsets, the last of them, the predictors of all bands, and what was written of the file
pub record LineEncoderState : Type 0 where
  pub y : ℕ
  pub offsets : List ℕ
  pub above : List ℕ
  pub bands : List PredictorState
  pub end : FileEncoderState

-- the image that has the rows so far, and the least sample of the kind in all others
abbrev pub image_by_lines : Params → List ℕ → Image
image_by_lines p offsets = image_of_rows p.shape p.kind offsets

-- the residuals of the first n rows, with bands interleaved by groups of `depth`
abbrev pub lines_of : Params → Image → ℕ → ℕ → List ℕ
lines_of p c depth n = flat_map (λ y. line_of p c 0 [] depth y) (upto n)

-- the predictors follow the rows so far, and their residuals were coded
pub record AreLinesUnderWay (p : Params) (e : LineEncoderState) : Type 0 where
  pub depth : ℕ
  pub lawful : IsLawful p
  pub order : p.order ≡ Bi depth
  pub row : e.y ≤ p.shape.rows
  pub size : length e.offsets ≡ e.y * row_size p.shape
  pub range : AllByRecursion (λ v. v < 2 ^ p.kind.bits) e.offsets
  pub room : length e.above ≡ row_size p.shape
  pub above : 1 ≤ e.y → e.above ≡ drop ((e.y - 1) * row_size p.shape) e.offsets
  pub own : bands_of e.bands ≡ upto p.shape.bands
  pub at : AreAt p (image_by_lines p e.offsets) (e.y * p.shape.columns) e.bands
  pub coded : HasCoded p e.end (lines_of p (image_by_lines p e.offsets) depth e.y)

-- all rows of an image were handed over
pub record AreAllLines (e : LineEncoderState) : Type 0 where
  pub params : Params
  pub under_way : AreLinesUnderWay params e
  pub whole : e.y ≡ params.shape.rows
