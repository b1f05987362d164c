use Rattle.std.proofs.Common.{ℕ, ◌≡◌, ◌+◌, ◌<◌, length, take, get_or}
use Rattle.lanes.specs.Lanes.{number}
use Rattle.sample_adaptive.proofs.eight_column.put_numbers.Given as goal

abbrev pub invariant-loop-j : goal.invariant-loop-j
invariant-loop-j l =
    record {
      long : length l.residuals ≡ length l.initial.residuals;
      before : take l.i l.residuals ≡ take l.i l.initial.residuals;
      numbers : (k : ℕ) → k < l.j → get_or l.residuals (l.i + k) 0 ≡ number l.numbers k;
    }
