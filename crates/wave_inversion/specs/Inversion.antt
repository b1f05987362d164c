-- Inverting the prediction of a cube in place: mapped residuals are replaced by the samples that have them.
use Rattle.std.specs.Prelude.{ℕ, ◌≡◌, ◌+◌, ◌*◌, ◌<◌, ◌≤◌, List, length, slice_get, slice_index_or, Some}
use Rattle.cube_core.specs.Kind.{sample_of}
use Rattle.cube_core.specs.Image.{Image, IsPlace, sample_at}
use Rattle.header_bits.specs.declared.params.Params.{Params}
use Rattle.header_bits.specs.Lawful.{IsLawful}
use Rattle.sample_prediction.specs.Residual.{mapped_residual}
use Rattle.predict_core.specs.Cubes.{IsCubeOf}
use Rattle.predict_core.specs.Following.{PredictorState, Follows, no_band}
use Rattle.predict_core.specs.Precedence.{AreAlike}
use Rattle.predict_core.specs.Walked.{AreAlong}

-- at row y, column x of band z an image c holds, as an offset from the least sample, the mapped residual that d has there
abbrev pub HoldsResidual : Params → Image → Image → ℕ → ℕ → ℕ → Type 0
HoldsResidual p c d z y x = sample_at c z y x ≡ sample_of c.kind (mapped_residual p d z (y * c.shape.columns + x))

-- c holds the mapped residuals of the cube d in place of its samples
pub record IsCoded (p : Params) (c d : Image) : Type 0 where
  pub cube : IsCubeOf p d
  pub alike : AreAlike c d
  pub residual : (z y x : ℕ) → IsPlace c.shape z y x → HoldsResidual p c d z y x

-- the predictor of a band
abbrev pub band_at : List PredictorState → ℕ → PredictorState
band_at bands z = slice_index_or bands z no_band

-- band z of c has the samples of d before the next place of the band's predictor, which follows d, and holds residuals from there on
pub record IsBandInverted (p : Params) (c d : Image) (z : ℕ) (b : PredictorState) : Type 0 where
  pub band : b.band ≡ z
  pub follows : Follows p b d
  pub done : (y x : ℕ) → IsPlace c.shape z y x → y * c.shape.columns + x < b.t → sample_at c z y x ≡ sample_at d z y x
  pub coded : (y x : ℕ) → IsPlace c.shape z y x → b.t ≤ y * c.shape.columns + x → HoldsResidual p c d z y x

-- so it is of all bands, as far as each has come
pub record IsInverting (p : Params) (c d : Image) (bands : List PredictorState) : Type 0 where
  pub lawful : IsLawful p
  pub cube : IsCubeOf p d
  pub alike : AreAlike c d
  pub many : length bands ≡ p.shape.bands
  pub each : (z : ℕ) → z < p.shape.bands → IsBandInverted p c d z (band_at bands z)

-- all bands below band z have come to place t
abbrev pub AreAhead : List PredictorState → ℕ → ℕ → Type 0
AreAhead bands z t = (lower : ℕ) → lower < z → t ≤ (band_at bands lower).t

-- n consecutive bands from the first on stand at place t
abbrev pub StandAt : List PredictorState → ℕ → ℕ → ℕ → Type 0
StandAt bands first last t = (z : ℕ) → first ≤ z → z < last → (band_at bands z).t ≡ t

-- all other bands are as they were
abbrev pub AreKeptBeside : List PredictorState → List PredictorState → ℕ → ℕ → Type 0
AreKeptBeside old new first last = (z : ℕ) → (first ≤ z → last ≤ z) → band_at new z ≡ band_at old z

-- before anything is inverted: the image has the parameters' shape and kind, and the predictor of each band is at its first place
pub record IsAtStart (p : Params) (c : Image) (bands : List PredictorState) : Type 0 where
  pub lawful : IsLawful p
  pub shape : c.shape ≡ p.shape
  pub kind : c.kind ≡ p.kind
  pub many : length bands ≡ p.shape.bands
  pub along : (d : Image) → AreAlong p d 0 bands
  pub first : (z : ℕ) (b : PredictorState) → slice_get bands z ≡ Some b → b.t ≡ 0
