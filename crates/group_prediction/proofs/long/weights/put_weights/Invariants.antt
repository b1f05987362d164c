use Rattle.std.proofs.Common.{◌≡◌, ◌≢◌, ◌<◌, ℕ, pos, length, slice_index_or}
use Rattle.lanes.specs.Lanes.{place}
use Rattle.group_prediction.proofs.long.weights.put_weights.Given as goal

abbrev pub invariant-loop-j : goal.invariant-loop-j
invariant-loop-j g l = record {
  done : (n : ℕ) → n < l.j → place l.rows n l.b ≡ slice_index_or l.weights n (pos 0);
  others : (n k : ℕ) → k ≢ l.b → place l.rows n k ≡ place l.initial.rows n k;
  long : length l.rows ≡ 18;
}
