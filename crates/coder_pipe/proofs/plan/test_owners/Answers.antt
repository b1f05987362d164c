use Rattle.std.proofs.Common.{◌∙◌, arith}
use Rattle.coder_pipe.proofs.Planning.{owner_there}
use Rattle.coder_pipe.proofs.plan.test_owners.Goals as goal

pub loop-z-preserved : goal.loop-z-preserved
loop-z-preserved c = c.loop-z.invariant ∙ owner_there _ c.loop-z.z c.args.deal.now (omega arith) (omega (arith, c.from.ensures))
