use Rattle.std.proofs.Common.{drop, ◌*◌}
use Rattle.block_adaptive.specs.Options.{pair_codes}
use Rattle.block_adaptive.proofs.Gathers.{Goes}
use Rattle.block_adaptive.proofs.writing.append_pairs.Given as goal

abbrev pub invariant-loop-i : goal.invariant-loop-i
invariant-loop-i l = Goes l.fn.writer l.writer (pair_codes l.block) (pair_codes (drop (2 * l.i) l.block))
