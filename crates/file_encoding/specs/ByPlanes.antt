-- The encoder that is handed an image band after band, row by row.
use Rattle.std.specs.Prelude.{ℕ, ◌≡◌, ◌+◌, ◌-◌, ◌*◌, ◌^◌, ◌<◌, ◌≤◌, min, List, [], ◌∷◌, length, take, drop, map, slice_index_or}
use Rattle.std.specs.List.{flat_map, AllByRecursion}
use Rattle.cube_core.specs.declared.order.Order.TheVariants.{Bsq}
use Rattle.cube_core.specs.Shape.{Sizes, sample_count}
use Rattle.cube_core.specs.Kind.{SampleKind, sample_of}
use Rattle.cube_core.specs.Offsets.{samples_of}
use Rattle.cube_core.specs.Image.{Image, IsCube, IsPlace, sample_at}
use Rattle.cube_core.specs.Order.{upto}
use Rattle.header_bits.specs.declared.params.Params.{Params}
use Rattle.header_bits.specs.Lawful.{IsLawful}
use Rattle.sample_prediction.specs.HandedRows.{row_size}
use Rattle.predict_core.specs.Following.{PredictorState}
use Rattle.file_format.specs.File.{file_of}
use Rattle.file_encoding.specs.Ends.{FileEncoderState, HasCoded}
use Rattle.file_encoding.specs.Own.{rows_of}
use Rattle.file_encoding.specs.Walks.{AreAt, bands_of}

-- an image's samples are these: band after band, row after row, each as its offset s - s_min
abbrev pub HasPlanes : Image → List ℕ → Type 0
HasPlanes c offsets =
    (z y x : ℕ) → IsPlace c.shape z y x → sample_at c z y x ≡ sample_of c.kind (slice_index_or offsets ((z * c.shape.rows + y) * c.shape.columns + x) 0)

-- the bytes are the file of every cube with these planes
abbrev pub IsFileOfPlanes : Params → List ℕ → List ℕ → Type 0
IsFileOfPlanes p offsets bytes =
    (c : Image) → IsCube c → c.shape ≡ p.shape → c.kind ≡ p.kind → HasPlanes c offsets → bytes ≡ file_of c p

-- the image that has these first samples, band after band, and the least sample of the kind in all others
unfoldable pub image_of_planes : Sizes → SampleKind → List ℕ → Image
image_of_planes s k offsets =
    record { shape = s; kind = k; samples = samples_of k (map (λ i. slice_index_or offsets i 0) (upto (sample_count s))) }

-- ---- the encoder's state

-- the number of rows so far and their offsets, the first band of the group in hand, the planes of the previous bands and of the group, the rows of
-- all bands that were predicted last, the predictors of all bands, and what was written of the file
pub record PlaneEncoderState : Type 0 where
  pub y : ℕ
  pub offsets : List ℕ
  pub first : ℕ
  pub previous : List ℕ
  pub planes : List ℕ
  pub present : List ℕ
  pub above : List ℕ
  pub bands : List PredictorState
  pub end : FileEncoderState

-- how many bands are predicted together
abbrev pub most_at_once : ℕ
most_at_once = 8

-- the number of samples of a plane
abbrev pub plane_size : Sizes → ℕ
plane_size s = s.rows * s.columns

-- the least band that is kept where a group begins at band `first`: the first of the previous bands of that one
abbrev pub least_kept : Params → ℕ → ℕ
least_kept p first = first - p.previous

-- the end of the group that begins at band `first`
abbrev pub end_of_group : Params → ℕ → ℕ
end_of_group p first = min p.shape.bands (first + most_at_once)

-- the most planes of previous bands that are kept
abbrev pub most_previous : Params → ℕ
most_previous p = min p.previous p.shape.bands

-- the residuals of the first n bands
abbrev pub planes_of : Params → Image → ℕ → List ℕ
planes_of p c n = flat_map (λ z. rows_of p c (z ∷ [])) (upto n)

-- rows of all bands, of samples of a kind
pub record IsRow (p : Params) (row : List ℕ) : Type 0 where
  pub size : length row ≡ row_size p.shape
  pub range : AllByRecursion (λ v. v < 2 ^ p.kind.bits) row

-- some planes are those of the bands from `base` on
abbrev pub HasPlanesOf : Sizes → List ℕ → ℕ → List ℕ → ℕ → Type 0
HasPlanesOf s offsets base planes many = (k y x : ℕ) → k < many → y < s.rows → x < s.columns
    → slice_index_or planes ((k * s.rows + y) * s.columns + x) 0 ≡ slice_index_or offsets (((base + k) * s.rows + y) * s.columns + x) 0

-- the planes of the previous bands are there, and those of the group in hand as far as they were handed over; no residual of the group is coded,
-- and those of all bands before it are
pub record AreKept (p : Params) (e : PlaneEncoderState) : Type 0 where
  pub band : e.first ≤ p.shape.bands
  pub begun : e.first * p.shape.rows ≤ e.y
  pub room : length e.planes ≡ min most_at_once p.shape.bands * plane_size p.shape
  pub kept : e.first < p.shape.bands → take (length e.offsets - e.first * plane_size p.shape) e.planes ≡ drop (e.first * plane_size p.shape) e.offsets
  pub previous_room : most_previous p * plane_size p.shape ≤ length e.previous
  pub previous : HasPlanesOf p.shape e.offsets (least_kept p e.first) e.previous (e.first - least_kept p e.first)
  pub present : IsRow p e.present
  pub above : IsRow p e.above
  pub own : bands_of e.bands ≡ upto p.shape.bands
  pub fresh : (c : Image) → AreAt p c 0 (drop e.first e.bands)
  pub coded : HasCoded p e.end (planes_of p (image_of_planes p.shape p.kind e.offsets) e.first)

-- some rows were handed over of an image that is coded band after band
pub record AreHanded (p : Params) (e : PlaneEncoderState) : Type 0 where
  pub lawful : IsLawful p
  pub order : p.order ≡ Bsq
  pub row : e.y ≤ p.shape.bands * p.shape.rows
  pub size : length e.offsets ≡ e.y * p.shape.columns
  pub range : AllByRecursion (λ v. v < 2 ^ p.kind.bits) e.offsets
  pub planes : AreKept p e

-- the rows so far: they were coded as far as their groups are whole
pub record ArePlanesUnderWay (p : Params) (e : PlaneEncoderState) : Type 0 where
  pub lawful : IsLawful p
  pub order : p.order ≡ Bsq
  pub row : e.y ≤ p.shape.bands * p.shape.rows
  pub size : length e.offsets ≡ e.y * p.shape.columns
  pub range : AllByRecursion (λ v. v < 2 ^ p.kind.bits) e.offsets
  pub planes : AreKept p e
  pub in_hand : e.first < p.shape.bands → e.y < end_of_group p e.first * p.shape.rows

-- the group in hand is whole
pub record IsGroupWhole (p : Params) (e : PlaneEncoderState) : Type 0 where
  pub handed : AreHanded p e
  pub more : e.first < p.shape.bands
  pub whole : e.y ≡ end_of_group p e.first * p.shape.rows

-- all planes of an image were handed over
pub record AreAllPlanes (e : PlaneEncoderState) : Type 0 where
  pub params : Params
  pub under_way : ArePlanesUnderWay params e
  pub whole : e.y ≡ params.shape.bands * params.shape.rows

-- ---- the prediction of some bands

-- row y of each of these planes, from band `base` on, is in a row of all bands
abbrev pub HasLinesOf : Sizes → ℕ → ℕ → List ℕ → ℕ → List ℕ → Type 0
HasLinesOf s base y planes many row = (k x : ℕ) → k < many → x < s.columns
    → slice_index_or row ((base + k) * s.columns + x) 0 ≡ slice_index_or planes ((k * s.rows + y) * s.columns + x) 0

-- row y of each of these planes has offsets of a kind
abbrev pub AreLinesInRange : Params → ℕ → List ℕ → ℕ → Type 0
AreLinesInRange p y planes many =
    (k x : ℕ) → k < many → x < p.shape.columns → slice_index_or planes ((k * p.shape.rows + y) * p.shape.columns + x) 0 < 2 ^ p.kind.bits

-- so has every row
abbrev pub ArePlanesInRange : Params → List ℕ → ℕ → Type 0
ArePlanesInRange p planes many = (y : ℕ) → y < p.shape.rows → AreLinesInRange p y planes many

-- planes that differ in row y alone
abbrev pub AreSameBut : Sizes → ℕ → List ℕ → List ℕ → Type 0
AreSameBut s y old new = (k y' x : ℕ) → y' < s.rows → (y' ≡ y → ⊥) → x < s.columns
    → slice_index_or new ((k * s.rows + y') * s.columns + x) 0 ≡ slice_index_or old ((k * s.rows + y') * s.columns + x) 0
