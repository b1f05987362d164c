use Rattle.std.proofs.Common.{◌≡◌, ◌+◌, ◌*◌, ◌^◌, ◌≤◌, length}
use Rattle.block_adaptive.specs.Options.{pair_codes}
use Rattle.block_adaptive.proofs.choice.pairs_cost.Given as goal

abbrev pub invariant-loop-first : goal.invariant-loop-first
invariant-loop-first l =
    record { so_far : l.total + length (pair_codes l.left) ≡ length (pair_codes l.block); bound : l.total + length l.left * 2 ^ 34 ≤ length l.block * 2 ^ 34 }

abbrev pub decreases-loop-first : goal.decreases-loop-first
decreases-loop-first l = length l.left
