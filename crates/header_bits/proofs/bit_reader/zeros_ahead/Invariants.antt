use Rattle.std.proofs.Common.{◌≡◌, ◌+◌, ◌-◌, ◌≤◌, ◌++◌, false, drop, replicate}
use Rattle.header_bits.specs.Bits.{bits_of_bytes}
use Rattle.header_bits.proofs.bit_reader.zeros_ahead.Given as goal

abbrev pub invariant-loop-zeros : goal.invariant-loop-zeros
invariant-loop-zeros l = record {
  within : l.zeros ≤ l.most;
  zeros : drop l.at (bits_of_bytes l.bytes) ≡ replicate l.zeros false ++ drop (l.at + l.zeros) (bits_of_bytes l.bytes);
}

abbrev pub decreases-loop-zeros : goal.decreases-loop-zeros
decreases-loop-zeros l = l.most - l.zeros
