use Rattle.std.proofs.Common.{◌≡◌, ◌+◌, ◌^◌, ◌<◌, ◌≤◌, ℕ, length}
use Rattle.cube_core.specs.Image.{Image}
use Rattle.header_bits.specs.declared.params.Params.{Params}
use Rattle.band_lanes.specs.Rows.{weights_of}
use Rattle.sample_prediction.specs.Bounds.{AllWithin}
use Rattle.predict_core.specs.declared.settings.Settings.{Settings}
use Rattle.wave_inversion.specs.Wave.{AreOffsetRows, AreRowsBelow, long_lower_of}
use Rattle.wave_inversion.specs.WaveForms.{long_form}
use Rattle.wave_inversion.specs.WaveLanes.{AreLanes, AreInStep}
use Rattle.wave_inversion.proofs.long.steps.invert_places.Given as goal

abbrev pub invariant-loop-k : goal.invariant-loop-k
invariant-loop-k g l = record {
  numbers_in : AreOffsetRows l.form.greatest l.numbers;
  own_in : AreRowsBelow (2 ^ (l.form.step.bits + 2)) l.own;
  weights_in : (b : ℕ) → b < 8 → AllWithin (2 ^ (l.form.step.omega + 2)) (weights_of g.row.Q b l.working);
  long : length l.working ≡ 9;
  inverted : (p : Params) (s : ℕ → Settings) (d : Image) (first y origin last n : ℕ) → AreLanes g.row.Q (long_form l.form) p s d first y origin last l.above (long_lower_of l.lower)
      → l.fn.stretch.to ≤ last → (n ≤ 8) × (n + 7 ≤ origin + l.fn.stretch.from)
      → AreInStep g.row.Q p s d first y origin last n l.fn.stretch.from l.fn.numbers l.fn.own l.fn.weights
      → AreInStep g.row.Q p s d first y origin last n l.k l.numbers l.own l.working;
}
