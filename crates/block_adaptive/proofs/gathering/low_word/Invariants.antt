use Rattle.std.proofs.Common.{drop}
use Rattle.block_adaptive.specs.Options.{low_groups}
use Rattle.block_adaptive.proofs.gathering.low_word.Given as goal
use Rattle.block_adaptive.proofs.WordTexts.{Words}

abbrev pub invariant-loop-value : goal.invariant-loop-value
invariant-loop-value l = Words l.held l.word (low_groups l.k l.values) (low_groups l.k (drop l.value-index l.values))
