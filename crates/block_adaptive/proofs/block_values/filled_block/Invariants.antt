use Rattle.std.proofs.Common.{◌≡◌, ℕ, ◌-◌, ◌≤◌, ◌++◌, take, length}
use Rattle.block_adaptive.proofs.block_values.filled_block.Given as goal
use Rattle.header_bits.specs.Examples.{zeros}

abbrev pub invariant-loop-i : goal.invariant-loop-i
invariant-loop-i l = record {
  filled : (n : ℕ) → l.held ≤ n → n ≤ l.i → take n l.block ≡ take l.held l.values ++ zeros (n - l.held);
  whole : length l.block ≡ 64;
}
