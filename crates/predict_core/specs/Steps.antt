-- The steps of the weights, computed by shifts and a rounding.
use Rattle.std.specs.Prelude.{ℕ, ◌≡◌, ◌+◌, ◌≤◌, ℤ}
use Rattle.sample_prediction.specs.declared.weights.StepShift.{StepShift}

-- the shift is that of the exponent ρ, and shifts components of samples of `bits` bits left without overflow
pub record AreSteps (f : StepShift) (bits : ℕ) (exponent : ℤ) : Type 0 where
  pub is : f.exponent ≡ exponent
  pub room : bits + f.left ≤ 24
