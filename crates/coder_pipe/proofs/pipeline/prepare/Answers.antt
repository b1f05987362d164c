use Rattle.std.proofs.Common.{arith}
use Rattle.std.proofs.lemmas.Grind.{common_steps}
use Rattle.coder_pipe.proofs.pipeline.prepare.Goals as goal

pub loop-feed-preserved : goal.loop-feed-preserved
loop-feed-preserved g c = grind (arith, common_steps)

pub returns-clause-feeds : goal.returns-clause-feeds
returns-clause-feeds g c = grind (arith, common_steps)
