use Rattle.std.proofs.Common.{◌≡◌}
use Rattle.speed.proofs.Scene.{checksum_before}
use Rattle.speed.proofs.cube.sum_of_cube.Given as goal

abbrev pub invariant-loop-offset : goal.invariant-loop-offset
invariant-loop-offset l = l.sum ≡ checksum_before l.cube l.z l.y l.offset-index

abbrev pub invariant-loop-y : goal.invariant-loop-y
invariant-loop-y l = l.sum ≡ checksum_before l.cube l.z l.y 0

abbrev pub invariant-loop-z : goal.invariant-loop-z
invariant-loop-z l = l.sum ≡ checksum_before l.cube l.z 0 0
