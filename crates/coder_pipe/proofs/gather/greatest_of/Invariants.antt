use Rattle.std.proofs.Common.{ℕ, ◌≤◌, ◌<◌, get_or}
use Rattle.std.specs.List.{All}
use Rattle.coder_pipe.proofs.gather.greatest_of.Given as goal

abbrev pub invariant-loop-i : goal.invariant-loop-i
invariant-loop-i l = record {
  bound : (j : ℕ) → j < l.i → get_or l.numbers j 0 ≤ l.greatest;
  least : (most : ℕ) → All (λ n. n ≤ most) l.numbers → l.greatest ≤ most;
}
