use Rattle.std.proofs.Common.{◌≡◌, ◌+◌, ◌*◌, ◌<◌, ◌≤◌, ℕ, pos, length, slice_index_or}
use Rattle.lanes.specs.Lanes.{place}
use Rattle.wave_inversion.proofs.long.weights.take_weights.Given as goal

abbrev pub invariant-loop-j : goal.invariant-loop-j
invariant-loop-j g l = record {
  even : (n : ℕ) → n < l.j → place l.rows n (2 * l.b) ≡ slice_index_or l.weights (2 * n) (pos 0);
  odd : (n : ℕ) → n < l.j → place l.rows n (2 * l.b + 1) ≡ slice_index_or l.weights (2 * n + 1) (pos 0);
  rest : (k : ℕ) → 2 * l.j ≤ k → slice_index_or l.weights k (pos 0) ≡ slice_index_or l.initial.weights k (pos 0);
  long : length l.weights ≡ 18;
}
