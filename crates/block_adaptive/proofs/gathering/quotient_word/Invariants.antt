use Rattle.std.proofs.Common.{drop}
use Rattle.block_adaptive.specs.Options.{quotient_codes}
use Rattle.block_adaptive.proofs.gathering.quotient_word.Given as goal
use Rattle.block_adaptive.proofs.WordTexts.{Words}

abbrev pub invariant-loop-value : goal.invariant-loop-value
invariant-loop-value l = Words l.held l.word (quotient_codes l.k l.values) (quotient_codes l.k (drop l.value-index l.values))
