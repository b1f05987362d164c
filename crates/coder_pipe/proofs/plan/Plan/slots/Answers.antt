use Rattle.coder_pipe.proofs.plan.Plan.slots.Goals as goal

pub returns : goal.returns
returns c = cc
