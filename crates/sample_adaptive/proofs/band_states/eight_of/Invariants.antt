use Rattle.std.proofs.Common.{ℕ, ◌≡◌, ◌+◌, ◌<◌, length}
use Rattle.lanes.specs.Lanes.{number}
use Rattle.sample_adaptive.proofs.band_states.eight_of.Given as goal

abbrev pub invariant-loop-j : goal.invariant-loop-j
invariant-loop-j l =
    record {
      count : length l.eight ≡ 8;
      numbers : (k : ℕ) → k < l.j → number l.eight k ≡ number l.numbers (l.at + k);
    }
