use Rattle.std.proofs.Common.{◌≡◌, take}
use Rattle.speed.specs.Numbers.{checksum}
use Rattle.speed.proofs.synthetic.sum_of_bytes.Given as goal

abbrev pub invariant-loop-byte : goal.invariant-loop-byte
invariant-loop-byte l = l.sum ≡ checksum (take l.byte-index l.bytes)
