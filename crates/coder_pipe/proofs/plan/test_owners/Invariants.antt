use Rattle.std.proofs.Common.{◌≡◌, drop}
use Rattle.coder_pipe.specs.Plans.{owner_fault}
use Rattle.coder_pipe.proofs.plan.test_owners.Given as goal

abbrev pub invariant-loop-z : goal.invariant-loop-z
invariant-loop-z l = owner_fault l.predictors 0 l.deal ≡ owner_fault l.predictors l.z (drop l.z l.deal)
