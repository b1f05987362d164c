use Rattle.std.proofs.Common.{◌≡◌, take}
use Rattle.speed.specs.Numbers.{checksum}
use Rattle.speed.proofs.predictor.sum_of.Given as goal

abbrev pub invariant-loop-number : goal.invariant-loop-number
invariant-loop-number l = l.sum ≡ checksum (take l.number-index l.numbers)
