use Rattle.std.proofs.Common.{◌≡◌, ◌≢◌, ◌<◌, ℕ}
use Rattle.lanes.specs.Lanes.{lane, place}
use Rattle.wave_inversion.proofs.long.central_lines.put_line.Given as goal

abbrev pub invariant-loop-i : goal.invariant-loop-i
invariant-loop-i l = record {
  written : (i : ℕ) → i < l.i → place l.rows i l.b ≡ lane l.line i;
  others : (i k : ℕ) → k ≢ l.b → place l.rows i k ≡ place l.initial.rows i k;
}
