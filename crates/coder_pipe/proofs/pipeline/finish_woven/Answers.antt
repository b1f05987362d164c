use Rattle.std.proofs.Common.{refl, rules}
use Rattle.coder_pipe.proofs.Pipelines.{nothing_left, handed_whole, piped}
use Rattle.coder_pipe.proofs.pipeline.finish_woven.Goals as goal

pub finish_all-lanes-requires-clause-whole : goal.finish_all-lanes-requires-clause-whole
finish_all-lanes-requires-clause-whole g c = handed_whole _ _ _ _ c.args.stages.items _ c.prove_is_plan.ensures c.requires.lists refl c.requires.woven

pub finish-requires : goal.finish-requires
finish-requires g c = nothing_left _ _ _ _ c.prove_is_plan.ensures.lawful.order c.requires.woven

pub returns-clause-piped : goal.returns-clause-piped
returns-clause-piped g c =
    let made = piped _ _ _ _ _ _ _ _ c.prove_is_plan.ensures c.requires.lists c.requires.woven c.finish_all-lanes.ensures.handed
    c.finish_all-lanes.ensures.lanes c.in_ok-file.ensures.file in search rules

pub returns-clause-refused : goal.returns-clause-refused
returns-clause-refused g c = tt
