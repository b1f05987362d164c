use Rattle.std.proofs.Common.{arith}
use Rattle.std.proofs.lemmas.Grind.{common_steps}
use Rattle.std.proofs.lemmas.Nat.{one_shl, and_mask}
use Rattle.block_adaptive.proofs.Emits.{low_next_masked}
use Rattle.block_adaptive.proofs.gathering.low_word.Goals as goal
use Rattle.block_adaptive.proofs.WordTexts.{words_joined}

pub loop-value-preserved : goal.loop-value-preserved
loop-value-preserved c = grind (arith, common_steps, and_mask, low_next_masked, one_shl, words_joined)
