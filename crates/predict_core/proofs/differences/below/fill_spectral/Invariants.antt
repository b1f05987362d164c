use Rattle.std.proofs.Common.{◌≡◌, ℕ, ◌+◌, ◌-◌, ◌*◌, ◌<◌, ◌++◌, length}
use Rattle.predict_core.specs.Rooms.{components_at, lower_differences}
use Rattle.predict_core.proofs.differences.below.fill_spectral.Given as goal

abbrev pub invariant-loop-q : goal.invariant-loop-q
invariant-loop-q g l = record {
  done : (i : ℕ) → i < l.run.count → 0 < l.run.y + (l.run.x + i) → components_at l.q l.quads i
      ≡ components_at l.first l.initial.quads i ++ lower_differences l.settings.predictor l.run.image l.settings.band l.run.y (l.run.x + i) l.nearest (4 * (l.q - l.first));
  long : length l.quads ≡ g.row.Q;
}
