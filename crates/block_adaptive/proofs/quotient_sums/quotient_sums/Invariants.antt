use Rattle.std.proofs.Common.{◌≡◌, ◌+◌, ◌-◌, ◌%◌, ◌≤◌, length}
use Rattle.block_adaptive.proofs.SumLanes.{AreSums}
use Rattle.block_adaptive.proofs.quotient_sums.quotient_sums.Given as goal

abbrev pub invariant-loop-at : goal.invariant-loop-at
invariant-loop-at l = record {
  first : AreSums l.k l.at l.block l.first;
  second : AreSums (l.k + 1) l.at l.block l.second;
  third : AreSums (l.k + 2) l.at l.block l.third;
  eights : l.at % 8 ≡ 0;
  within : l.at ≤ length l.block;
}

abbrev pub decreases-loop-at : goal.decreases-loop-at
decreases-loop-at l = length l.block - l.at
