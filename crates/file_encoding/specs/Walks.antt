-- The band predictors that a walk over the places of some bands takes along.
use Rattle.std.specs.Prelude.{◌≡◌, ℕ, ◌<◌, List, map}
use Rattle.std.specs.List.{AllByRecursion}
use Rattle.cube_core.specs.Image.{Image}
use Rattle.cube_core.specs.Order.{upto}
use Rattle.header_bits.specs.declared.params.Params.{Params}
use Rattle.predict_core.specs.Following.{PredictorState, Follows}
use Rattle.file_encoding.specs.Own.{own}

-- an image of the parameters' shape and kind
pub record IsSeen (p : Params) (c : Image) : Type 0 where
  pub shape : c.shape ≡ p.shape
  pub kind : c.kind ≡ p.kind

-- a band predictor follows the image, and its next place is the one with raster index t
pub record IsAt (p : Params) (c : Image) (t : ℕ) (b : PredictorState) : Type 0 where
  pub follows : Follows p b c
  pub next : b.t ≡ t
  pub inside : b.band < p.shape.bands

-- all of these band predictors follow the image, and the next place of each is the one with raster index t
abbrev pub AreAt : Params → Image → ℕ → List PredictorState → Type 0
AreAt p c t bands = AllByRecursion (λ b. IsAt p c t b) bands

-- the bands of band predictors
abbrev pub bands_of : List PredictorState → List ℕ
bands_of bands = map (λ b. b.band) bands

-- the band predictors of predictor q's own bands, each at its first place
pub record AreFresh (p : Params) (q : ℕ) (deal : List ℕ) (c : Image) (bands : List PredictorState) : Type 0 where
  pub own : bands_of bands ≡ own q deal (upto p.shape.bands)
  pub at : AreAt p c 0 bands
