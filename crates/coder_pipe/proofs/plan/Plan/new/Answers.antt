use Rattle.std.proofs.Common.{sym, inl}
use Rattle.std.proofs.lemmas.Result.{IfErr-weaker}
use Rattle.coder_pipe.specs.Plans.{MayPlan}
use Rattle.coder_pipe.proofs.Planning.{plan_fault_is_exact}
use Rattle.coder_pipe.proofs.plan.Plan.new.Goals as goal
use Rattle.coder_pipe.proofs.plan.Plan.new.Goals.{In_ok-test_plan}

may : (c : In_ok-test_plan) → MayPlan c.args.predictors c.args.slots c.args.params.now.shape.bands c.args.deal.now
may c = (plan_fault_is_exact _ _ _ _).0 (rw c.bands.ensures.value at (sym c.in_ok-test_plan.ensures))

pub made-requires-clause-may : goal.made-requires-clause-may
made-requires-clause-may c = may (goal.at.made-requires-clause-may c).In_ok-test_plan

pub returns-clause-refused : goal.returns-clause-refused
returns-clause-refused c = IfErr-weaker _ _ _ (λ e h. inl (h, may (goal.at.returns-clause-refused c).In_ok-test_plan)) c.made.ensures.refused
