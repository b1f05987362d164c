-- Bounds on numbers and parameters.
use Rattle.std.specs.Prelude.{ℕ, ◌≤◌, ◌<◌, ℤ, pos, negsuc, ◌≤ℤ◌, unsigned_abs, List, slice_index_or, length}
use Rattle.cube_core.specs.Shape.{InRange}
use Rattle.sample_prediction.specs.declared.predictor.Predictor.{Predictor}

-- each number of the list has an absolute value of at most n
abbrev pub AllWithin : ℕ → List ℤ → Type 0
AllWithin n xs = (i : ℕ) → i < length xs → unsigned_abs (slice_index_or xs i (pos 0)) ≤ n

-- the parameters of a predictor are in their ranges
pub record IsPredictor (p : Predictor) : Type 0 where
  pub few : p.previous ≤ 15
  pub register : InRange 32 64 p.register
  pub omega : InRange 4 19 p.omega
  pub interval : InRange 4 11 p.interval_log
  pub least : negsuc 5 ≤ℤ p.vmin
  pub order : p.vmin ≤ℤ p.vmax
  pub greatest : p.vmax ≤ℤ pos 9
