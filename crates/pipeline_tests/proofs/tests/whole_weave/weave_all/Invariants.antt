use Rattle.std.proofs.Common.{◌≡◌, ℕ, List, length}
use Rattle.coder_pipe.specs.Woven.{HasWoven}
use Rattle.pipeline_tests.proofs.tests.whole_weave.weave_all.Given as goal

abbrev pub invariant-loop-index : goal.invariant-loop-index
invariant-loop-index g l = (numbers : List ℕ) × HasWoven l.plan.params l.plan.deal l.weaver numbers × (length numbers ≡ l.index)
