-- Bands in lanes: where 16 bits are exact for them, the weights in a lane, and what is predicted there.
use Rattle.std.specs.Prelude.{ℕ, ◌≡◌, ◌+◌, ◌*◌, ◌^◌, ◌≤◌, ℤ, pos, ◌+ℤ◌, ◌≤ℤ◌, List, length, take, ◌⊎◌}
use Rattle.lanes.specs.Lanes.{held}
use Rattle.band_lanes.specs.Rows.{weights_of}
use Rattle.predict_core.specs.Following.{PredictorState}
use Rattle.predict_core.specs.Largest.{NeverWraps}
use Rattle.sample_prediction.specs.Bounds.{AllWithin}
use Rattle.sample_prediction.specs.Predictor.{component_count}
use Rattle.sample_prediction.specs.declared.predictor.Predictor.{Predictor}

-- lanes of 16 bits are exact for a predictor of samples of so many bits: for the weights, for the components, and for components times or over a step's
-- power of two; and the register never wraps
pub record IsNarrow (p : Predictor) (bits : ℕ) : Type 0 where
  pub register : (z : ℕ) → NeverWraps p bits (component_count p z)
  pub omega_in : p.omega ≤ 13
  pub bits_in : bits ≤ 12
  pub least : pos p.omega ≤ℤ (p.vmin +ℤ pos 14)
  pub most : (p.vmax +ℤ pos bits) ≤ℤ (pos p.omega +ℤ pos 13)

-- the same for samples of up to 13 bits, whose components can fill 16 bits
pub record FitsNarrow (p : Predictor) (bits : ℕ) : Type 0 where
  pub register : (z : ℕ) → NeverWraps p bits (component_count p z)
  pub omega_in : p.omega ≤ 13
  pub bits_in : bits ≤ 13
  pub least : pos p.omega ≤ℤ (p.vmin +ℤ pos 14)
  pub most : (p.vmax +ℤ pos bits) ≤ℤ (pos p.omega +ℤ pos 13)

-- lane b of the first q rows of pairs holds a band's weights, one for each of its components, all in their range
pub record HasWeights (q b : ℕ) (s : PredictorState) (rows : List (List ℤ)) : Type 0 where
  pub long : length s.weights ≡ component_count s.predictor s.band
  pub used : length s.weights ≤ 2 * q → take (length s.weights) (weights_of q b rows) ≡ s.weights
  pub within : AllWithin (2 ^ (s.predictor.omega + 2)) (weights_of q b rows)

-- a predicted central difference: the exact one, or what 16 bits hold of it, which is as good for samples of at most 13 bits
abbrev pub IsPart : ℕ → ℤ → ℤ → Type 0
IsPart bits exact part = (part ≡ exact) ⊎ ((bits ≤ 13) × (part ≡ held exact))
