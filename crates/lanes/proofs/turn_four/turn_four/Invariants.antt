use Rattle.std.proofs.Common.{ℕ, ◌*◌, ◌<◌, ◌≡◌}
use Rattle.lanes.specs.Lanes.{lane, place}
use Rattle.lanes.proofs.turn_four.turn_four.Given as goal

abbrev pub invariant-loop-k : goal.invariant-loop-k
invariant-loop-k l = record {
  first : (i : ℕ) → i < 4 * l.k → place l.rows i 0 ≡ lane l.first i;
  second : (i : ℕ) → i < 4 * l.k → place l.rows i 1 ≡ lane l.second i;
  third : (i : ℕ) → i < 4 * l.k → place l.rows i 2 ≡ lane l.third i;
  fourth : (i : ℕ) → i < 4 * l.k → place l.rows i 3 ≡ lane l.fourth i;
}
