use Rattle.std.proofs.Common.{◌+◌, ◌-◌, ◌<◌, ℕ, min, length}
use Rattle.predict_core.specs.BandLanes.{HasWeights}
use Rattle.wave_inversion.specs.Inversion.{band_at}
use Rattle.wave_inversion.proofs.long.weights.fill_weights.Given as goal

abbrev pub invariant-loop-b : goal.invariant-loop-b
invariant-loop-b g l = (b : ℕ) → b < l.b → HasWeights g.row.Q b (band_at l.bands (min (l.first + b) (length l.bands - 1))) l.rows
