use Rattle.std.proofs.Common.{◌≡◌, length}
use Rattle.sample_adaptive.specs.ColumnLanes.{with_numbers}
use Rattle.sample_adaptive.proofs.band_states.put_eight_of.Given as goal

abbrev pub invariant-loop-j : goal.invariant-loop-j
invariant-loop-j l =
    record {
      stored : l.numbers ≡ with_numbers l.fn.numbers l.at l.eight l.j;
      count : length l.numbers ≡ length l.fn.numbers;
    }
