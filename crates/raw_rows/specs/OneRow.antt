-- A row in raw bytes, as a cube of one row: of all bands where the raw order interleaves these, of one band in band sequential order.
use Rattle.std.specs.Prelude.{ℕ, ◌≡◌, ◌+◌, ◌*◌, ◌^◌, ◌<◌, List, slice_index}
use Rattle.cube_core.specs.declared.layout.RawOrder.{RawOrder}
use Rattle.cube_core.specs.declared.layout.RawOrder.TheVariants as raw
use Rattle.cube_core.specs.Shape.{Sizes}
use Rattle.cube_core.specs.Image.{Image, sample_at}
use Rattle.cube_core.specs.Kind.{sample_of}

-- the sizes of an image as raw bytes bring it, row after row: with all bands at once; or, band after band, as one band that has the rows of all
abbrev pub rows_of_raw : RawOrder → Sizes → Sizes
rows_of_raw raw.Bsq s = record { columns = s.columns; rows = s.bands * s.rows; bands = 1 }
rows_of_raw raw.Bil s = s
rows_of_raw raw.Bip s = s

-- which of these rows has row y of band z
abbrev pub row_number : RawOrder → Sizes → ℕ → ℕ → ℕ
row_number raw.Bsq s z y = z * s.rows + y
row_number raw.Bil s z y = y
row_number raw.Bip s z y = y

-- which band of that row is band z
abbrev pub band_in_row : RawOrder → ℕ → ℕ
band_in_row raw.Bsq z = 0
band_in_row raw.Bil z = z
band_in_row raw.Bip z = z

-- the sizes of one row of all bands
abbrev pub one_row : Sizes → Sizes
one_row s = record s { rows = 1 }

-- how many samples it has
abbrev pub samples_of_row : Sizes → ℕ
samples_of_row s = s.bands * s.columns

-- the samples of a cube of one row, band after band, each as its offset s - s_min
abbrev pub AreBandRows : Image → List ℕ → Type 0
AreBandRows c offsets = (z x : ℕ) → z < c.shape.bands → x < c.shape.columns
    → (slice_index offsets (z * c.shape.columns + x) < 2 ^ c.kind.bits)
    × (sample_at c z 0 x ≡ sample_of c.kind (slice_index offsets (z * c.shape.columns + x)))
