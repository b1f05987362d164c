use Rattle.std.proofs.Common.{◌≡◌, ◌≢◌, ◌+◌, ◌*◌, ◌<◌, ℕ, pos, length, slice_index_or}
use Rattle.lanes.specs.Lanes.{place}
use Rattle.wave_inversion.proofs.long.weights.put_weights.Given as goal

abbrev pub invariant-loop-j : goal.invariant-loop-j
invariant-loop-j g l = record {
  even : (n : ℕ) → n < l.j → place l.rows n (2 * l.b) ≡ slice_index_or l.weights (2 * n) (pos 0);
  odd : (n : ℕ) → n < l.j → place l.rows n (2 * l.b + 1) ≡ slice_index_or l.weights (2 * n + 1) (pos 0);
  others : (n k : ℕ) → k ≢ 2 * l.b → k ≢ 2 * l.b + 1 → place l.rows n k ≡ place l.initial.rows n k;
  long : length l.rows ≡ 9;
}
