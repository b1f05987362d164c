use Rattle.std.proofs.Common.{◌≡◌, ◌<◌, ◌≤◌, ℕ, pos, length, slice_index_or}
use Rattle.lanes.specs.Lanes.{place}
use Rattle.group_prediction.proofs.long.weights.take_weights.Given as goal

abbrev pub invariant-loop-j : goal.invariant-loop-j
invariant-loop-j g l = record {
  done : (n : ℕ) → n < l.j → slice_index_or l.weights n (pos 0) ≡ place l.rows n l.b;
  rest : (k : ℕ) → l.j ≤ k → slice_index_or l.weights k (pos 0) ≡ slice_index_or l.initial.weights k (pos 0);
  long : length l.weights ≡ 18;
}
