-- Mapped residuals that take the place of an image's samples.
use Rattle.std.specs.Prelude.{ℕ, ◌≡◌, ◌+◌, ◌<◌, ◌≤◌, List, [], ◌∷◌, map}
use Rattle.std.specs.List.{flat_map}
use Rattle.cube_core.specs.Image.{Image, IsPlace, sample_at}
use Rattle.cube_core.specs.Order.{upto}
use Rattle.cube_core.specs.Offsets.{AreRowOffsets}
use Rattle.header_bits.specs.declared.params.Params.{Params}
use Rattle.predict_core.specs.Offsets.{number_at}
use Rattle.file_encoding.specs.Own.{row_of}
use Rattle.file_encoding.specs.Pieces.{row_start}

-- the samples of band z in row y, each as its offset s - s_min
abbrev pub offsets_of : Image → ℕ → ℕ → List ℕ
offsets_of c z y = map (λ x. number_at c z y x) (upto c.shape.columns)

-- those of all bands, band after band and row after row
abbrev pub all_offsets : Image → List ℕ
all_offsets c = flat_map (λ z. flat_map (λ y. offsets_of c z y) (upto c.shape.rows)) (upto c.shape.bands)

-- a row of all bands has row y of the first n bands
abbrev pub HasLinesAt : Image → ℕ → ℕ → List ℕ → Type 0
HasLinesAt c y n row = (z : ℕ) → z < n → AreRowOffsets c z y (row_start c.shape.columns z c.shape.columns row)

-- in row y the n bands from `first` on have these offsets now, and all else is as it was
pub record AreLinesSet (c d : Image) (first y n : ℕ) (lines : ℕ → List ℕ) : Type 0 where
  pub shape : d.shape ≡ c.shape
  pub kind : d.kind ≡ c.kind
  pub set : (k : ℕ) → k < n → offsets_of d (first + k) y ≡ lines k
  pub others : (z y' x : ℕ) → IsPlace c.shape z y' x → (y' ≡ y → first ≤ z → first + n ≤ z) → sample_at c z y' x ≡ sample_at d z y' x

-- the first n rows of d have the residuals of c, and the others its samples
pub record AreTurned (p : Params) (c d : Image) (n : ℕ) : Type 0 where
  pub shape : d.shape ≡ c.shape
  pub kind : d.kind ≡ c.kind
  pub turned : (z y : ℕ) → z < c.shape.bands → y < n → offsets_of d z y ≡ row_of p c (z ∷ []) y
  pub left : (z y x : ℕ) → IsPlace c.shape z y x → n ≤ y → sample_at c z y x ≡ sample_at d z y x
