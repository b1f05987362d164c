use Rattle.std.proofs.Common.{◌≡◌, take, fold}
use Rattle.speed.specs.Numbers.{mixed}
use Rattle.speed.proofs.ring_lanes.sum_after.Given as goal

abbrev pub invariant-loop-number : goal.invariant-loop-number
invariant-loop-number l = l.all ≡ fold mixed l.sum (take l.number-index l.numbers)
