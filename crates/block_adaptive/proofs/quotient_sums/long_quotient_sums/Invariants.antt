use Rattle.std.proofs.Common.{◌≡◌, ◌+◌, ◌*◌, ◌≤◌, take}
use Rattle.block_adaptive.specs.Options.{quotient_sum}
use Rattle.block_adaptive.proofs.quotient_sums.long_quotient_sums.Given as goal

abbrev pub invariant-loop-value : goal.invariant-loop-value
invariant-loop-value l = record {
  first : l.first ≡ quotient_sum l.k (take l.value-index l.block);
  second : l.second ≡ quotient_sum (l.k + 1) (take l.value-index l.block);
  third : l.third ≡ quotient_sum (l.k + 2) (take l.value-index l.block);
  first_most : l.first ≤ 65536 * l.value-index;
  second_most : l.second ≤ 65536 * l.value-index;
  third_most : l.third ≤ 65536 * l.value-index;
}
