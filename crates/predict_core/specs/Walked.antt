-- The predictors of all bands after the first i places in encoding order.
use Rattle.std.specs.Prelude.{ℕ, ◌≡◌, ◌+◌, ◌*◌, ◌<◌, ◌≤◌, List, map, slice_get, Some}
use Rattle.cube_core.specs.declared.order.Place.{Place}
use Rattle.cube_core.specs.Image.{Image}
use Rattle.cube_core.specs.Along.{HasCome}
use Rattle.header_bits.specs.declared.params.Params.{Params}
use Rattle.predict_core.specs.Following.{PredictorState, Follows}
use Rattle.sample_prediction.specs.Residual.{mapped_residual}

-- the predictor of band z follows the cube, and has advanced over the band's places among the first i in encoding order
pub record IsAlong (p : Params) (c : Image) (i z : ℕ) (b : PredictorState) : Type 0 where
  pub band : b.band ≡ z
  pub inside : b.t ≤ p.shape.rows * p.shape.columns
  pub follows : Follows p b c
  pub come : HasCome p.shape p.order z i b.t

-- the predictors of all bands do
abbrev pub AreAlong : Params → Image → ℕ → List PredictorState → Type 0
AreAlong p c i bands = (z : ℕ) → z < p.shape.bands → (b : PredictorState) → slice_get bands z ≡ Some b → IsAlong p c i z b

-- the mapped residuals at places
abbrev pub residuals_at : Params → Image → List Place → List ℕ
residuals_at p c ps = map (λ q. mapped_residual p c q.z (q.y * c.shape.columns + q.x)) ps
