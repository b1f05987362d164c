use Rattle.std.proofs.Common.{◌≡◌, ◌-◌, ◌%◌, ◌≤◌, length, take, sum}
use Rattle.block_adaptive.proofs.block_values.sum_of_eights.Given as goal

abbrev pub invariant-loop-first : goal.invariant-loop-first
invariant-loop-first l = record { so_far : l.total ≡ sum (take l.first l.block); eights : l.first % 8 ≡ 0; within : l.first ≤ length l.block }

abbrev pub decreases-loop-first : goal.decreases-loop-first
decreases-loop-first l = length l.block - l.first
