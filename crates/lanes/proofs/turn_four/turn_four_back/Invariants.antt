use Rattle.std.proofs.Common.{ℕ, ◌<◌, ◌≡◌}
use Rattle.lanes.specs.Lanes.{place}
use Rattle.lanes.proofs.turn_four.turn_four_back.Given as goal

abbrev pub invariant-loop-i : goal.invariant-loop-i
invariant-loop-i l = (i b : ℕ) → i < l.i → b < 4 → place l.lines b i ≡ place l.rows i b
