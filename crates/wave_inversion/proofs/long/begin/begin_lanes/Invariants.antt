use Rattle.std.proofs.Common.{◌≡◌, ◌+◌, ◌^◌, ◌<◌, ◌≤◌, ℕ}
use Rattle.cube_core.specs.Image.{Image}
use Rattle.header_bits.specs.declared.params.Params.{Params}
use Rattle.band_lanes.specs.Rows.{weights_of}
use Rattle.sample_prediction.specs.Bounds.{AllWithin}
use Rattle.predict_core.specs.declared.settings.Settings.{Settings}
use Rattle.wave_inversion.specs.Wave.{AreOffsetRows, AreRowsBelow, long_lower_of}
use Rattle.wave_inversion.specs.WaveForms.{long_form}
use Rattle.wave_inversion.specs.WaveLanes.{AreLanes, AreInStep, AreToBegin}
use Rattle.wave_inversion.proofs.long.begin.begin_lanes.Given as goal

abbrev pub invariant-loop-b : goal.invariant-loop-b
invariant-loop-b g l = record {
  above : l.room.above ≡ l.initial.room.above;
  lower : l.room.lower ≡ l.initial.room.lower;
  numbers_in : AreOffsetRows l.form.greatest l.room.numbers;
  own_in : AreRowsBelow (2 ^ (l.form.step.bits + 2)) l.room.own;
  weights_in : (b : ℕ) → b < 8 → AllWithin (2 ^ (l.form.step.omega + 2)) (weights_of g.row.Q b l.room.weights);
  inverted : (p : Params) (s : ℕ → Settings) (d : Image) (y last : ℕ) → AreLanes g.row.Q (long_form l.form) p s d l.first y 0 last l.initial.room.above (long_lower_of l.initial.room.lower) → 15 ≤ last
      → AreToBegin g.row.Q p s d l.first y l.bands l.initial.room.numbers
      → AreInStep g.row.Q p s d l.first y 0 last 1 8 l.initial.room.numbers l.initial.room.own l.initial.room.weights
      → AreInStep g.row.Q p s d l.first y 0 last l.b (7 + l.b) l.room.numbers l.room.own l.room.weights;
}
