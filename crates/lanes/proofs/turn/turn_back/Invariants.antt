use Rattle.std.proofs.Common.{ℕ, ◌*◌, ◌<◌, ◌≡◌}
use Rattle.lanes.specs.Lanes.{place}
use Rattle.lanes.proofs.turn.turn_back.Given as goal

abbrev pub invariant-loop-k : goal.invariant-loop-k
invariant-loop-k l = (i b : ℕ) → i < 8 * l.k → b < 8 → place l.lines b i ≡ place l.rows i b
