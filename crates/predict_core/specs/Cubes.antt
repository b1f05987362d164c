-- Cubes of the parameters' shape and kind, which their residuals determine.
use Rattle.std.specs.Prelude.{◌≡◌}
use Rattle.cube_core.specs.Image.{Image, IsCube}
use Rattle.header_bits.specs.declared.params.Params.{Params}
use Rattle.header_bits.specs.Lawful.{IsLawful}
use Rattle.sample_prediction.specs.Residual.{residuals}

-- a cube of the parameters' shape and kind
pub record IsCubeOf (p : Params) (c : Image) : Type 0 where
  pub cube : IsCube c
  pub shape : c.shape ≡ p.shape
  pub kind : c.kind ≡ p.kind

-- cubes with the same residuals are equal
abbrev pub OneCube : Type 0
OneCube = (p : Params) (c d : Image) → IsLawful p → IsCubeOf p c → IsCubeOf p d → residuals p c ≡ residuals p d → c ≡ d
