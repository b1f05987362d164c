use Rattle.std.proofs.Common.{◌≡◌, ◌+◌, ◌-◌, ◌<◌, ◌≤◌, ℕ, length}
use Rattle.lanes.specs.Lanes.{place}
use Rattle.predict_core.specs.Rooms.{lower_difference}
use Rattle.group_prediction.specs.GroupLines.{spectral_from}
use Rattle.group_prediction.proofs.band_lines.fill_spectral.Given as goal

abbrev pub invariant-loop-k : goal.invariant-loop-k
invariant-loop-k l = record {
  done : (i j : ℕ) → i < l.run.count → 0 < l.run.y + (l.run.x + i) → spectral_from l.settings.predictor ≤ j → j < l.k
      → place l.components j i ≡ lower_difference l.settings.predictor l.run.image l.settings.band l.run.y (l.run.x + i) (j - spectral_from l.settings.predictor + 1);
  others : (j i : ℕ) → j < spectral_from l.settings.predictor → place l.components j i ≡ place l.initial.components j i;
  long : length l.components ≡ 18;
}
