use Rattle.std.proofs.Common.{◌≡◌, ◌%◌, ◌^◌, map, take}
use Rattle.speed.proofs.block_coder.low_bits.Given as goal

abbrev pub invariant-loop-number : goal.invariant-loop-number
invariant-loop-number l = l.low.items ≡ map (λ n. n % 2 ^ l.bits) (take l.number-index l.numbers)
