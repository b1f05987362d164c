use Rattle.std.proofs.Common.{◌≡◌, ◌-◌, ◌%◌, ◌≤◌, drop, length}
use Rattle.block_adaptive.specs.Options.{low_groups}
use Rattle.block_adaptive.proofs.Gathers.{Goes}
use Rattle.block_adaptive.proofs.written_split.append_low_eights.Given as goal

abbrev pub invariant-loop-first : goal.invariant-loop-first
invariant-loop-first l =
    record {
      goes : Goes l.fn.writer l.writer (low_groups l.k l.block) (low_groups l.k (drop l.first l.block));
      eights : l.first % 8 ≡ 0;
      within : l.first ≤ length l.block;
    }

abbrev pub decreases-loop-first : goal.decreases-loop-first
decreases-loop-first l = length l.block - l.first
