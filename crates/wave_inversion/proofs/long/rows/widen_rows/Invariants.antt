use Rattle.std.proofs.Common.{◌≡◌, ◌<◌, ℕ, length}
use Rattle.lanes.specs.Lanes.{place}
use Rattle.wave_inversion.specs.WaveRows.{without_sign}
use Rattle.wave_inversion.proofs.long.rows.widen_rows.Given as goal

abbrev pub invariant-loop-i : goal.invariant-loop-i
invariant-loop-i l = record {
  long : length l.rows ≡ 64;
  written : (i b : ℕ) → i < l.i → b < 8 → place l.rows i b ≡ without_sign (place l.narrow i b);
}
