use Rattle.std.proofs.Common.{◌≡◌, ◌+◌, ◌*◌, ◌^◌, ◌<◌, ◌≤◌, ℕ, take}
use Rattle.cube_core.specs.Image.{Image}
use Rattle.header_bits.specs.declared.params.Params.{Params}
use Rattle.band_lanes.specs.Rows.{weights_of}
use Rattle.sample_prediction.specs.Bounds.{AllWithin}
use Rattle.sample_prediction.specs.Chain.{AreWeightsAt}
use Rattle.predict_core.specs.declared.settings.Settings.{Settings}
use Rattle.wave_inversion.specs.Wave.{AreOffsetRows, AreRowsBelow, kept_rows, lower_of}
use Rattle.wave_inversion.specs.WaveForms.{narrow_form}
use Rattle.wave_inversion.specs.WaveLanes.{AreLanes, AreInStep, column_at}
use Rattle.wave_inversion.proofs.begin.end_lanes.Given as goal

abbrev pub invariant-loop-b : goal.invariant-loop-b
invariant-loop-b g l = record {
  above : l.room.above ≡ l.initial.room.above;
  lower : l.room.lower ≡ l.initial.room.lower;
  numbers_in : AreOffsetRows l.form.greatest l.room.numbers;
  own_in : AreRowsBelow (2 ^ (l.form.step.bits + 2)) l.room.own;
  weights_in : (b : ℕ) → b < 8 → AllWithin (2 ^ (l.form.step.omega + 2)) (weights_of g.row.Q b l.room.weights);
  ends_in : (b : ℕ) → b < l.b → AllWithin (2 ^ (l.form.step.omega + 2)) (weights_of g.row.Q b (kept_rows l.room.ends b));
  inverted : (p : Params) (s : ℕ → Settings) (d : Image) (first y origin : ℕ)
      → AreLanes g.row.Q (narrow_form l.form) p s d first y origin l.last l.initial.room.above (lower_of l.initial.room.lower) → 15 ≤ origin + l.from
      → AreInStep g.row.Q p s d first y origin l.last 8 l.from l.initial.room.numbers l.initial.room.own l.initial.room.weights
      → AreInStep g.row.Q p s d first y origin l.last 8 (l.from + l.b) l.room.numbers l.room.own l.room.weights;
  kept : (p : Params) (s : ℕ → Settings) (d : Image) (first y origin : ℕ)
      → AreLanes g.row.Q (narrow_form l.form) p s d first y origin l.last l.initial.room.above (lower_of l.initial.room.lower) → 15 ≤ origin + l.from
      → AreInStep g.row.Q p s d first y origin l.last 8 l.from l.initial.room.numbers l.initial.room.own l.initial.room.weights
      → (b : ℕ) → b < l.b → first + b < d.shape.bands → column_at origin (l.from + b) b ≤ d.shape.columns
      → AreWeightsAt p (s b).predictor d (first + b) (y * d.shape.columns + column_at origin (l.from + b) b)
      (take (s b).count (weights_of g.row.Q b (kept_rows l.room.ends b)));
}
