use Rattle.std.proofs.Common.{◌≡◌, ◌+◌, ◌*◌, ◌≤◌, length, drop}
use Rattle.block_adaptive.specs.Options.{quotient_codes}
use Rattle.block_adaptive.proofs.choice.quotients_cost.Given as goal

abbrev pub invariant-loop-value : goal.invariant-loop-value
invariant-loop-value l =
    record {
      so_far : l.total + length (quotient_codes l.k (drop l.value-index l.block)) ≡ length (quotient_codes l.k l.block);
      bound : l.total ≤ 65536 * l.value-index;
    }
