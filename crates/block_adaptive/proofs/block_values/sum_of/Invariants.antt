use Rattle.std.proofs.Common.{◌≡◌, ◌*◌, ◌≤◌, sum, take}
use Rattle.block_adaptive.proofs.block_values.sum_of.Given as goal

abbrev pub invariant-loop-i : goal.invariant-loop-i
invariant-loop-i l = record { so_far : l.total ≡ sum (take l.i l.numbers); bound : l.total ≤ 65536 * l.i }
