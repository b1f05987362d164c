use Rattle.std.proofs.Common.{drop}
use Rattle.block_adaptive.specs.Options.{quotient_codes}
use Rattle.block_adaptive.proofs.Gathers.{Goes}
use Rattle.block_adaptive.proofs.written_split.append_codes.Given as goal

abbrev pub invariant-loop-value : goal.invariant-loop-value
invariant-loop-value l = Goes l.fn.writer l.writer (quotient_codes l.k l.values) (quotient_codes l.k (drop l.value-index l.values))
