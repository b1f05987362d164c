use Rattle.std.proofs.Common.{◌≡◌, ◌-◌, ◌≤◌, length}
use Rattle.cube_core.specs.Order.{from}
use Rattle.file_encoding.specs.Own.{own}
use Rattle.file_encoding.proofs.walk.count_own.Given as goal

abbrev pub invariant-loop-z : goal.invariant-loop-z
invariant-loop-z l = (l.count ≡ length (own l.predictor l.deal (from l.first (l.z - l.first)))) × (l.count ≤ l.z)
