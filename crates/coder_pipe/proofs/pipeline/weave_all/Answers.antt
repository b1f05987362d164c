use Rattle.std.proofs.Common.{arith, ◌∙◌}
use Rattle.coder_pipe.proofs.Pipelines.{as_many}
use Rattle.coder_pipe.proofs.pipeline.weave_all.Goals as goal

pub finish_woven-requires-clause-room : goal.finish_woven-requires-clause-room
finish_woven-requires-clause-room g c = omega (arith, as_many c.args.stages c.weave.new.stages c.in-Whole.ensures.feeds, c.requires.room)

pub finish_woven-requires-clause-lists : goal.finish_woven-requires-clause-lists
finish_woven-requires-clause-lists g c = rw c.in-Whole.ensures.feeds c.requires.lists

pub finish_woven-requires-clause-woven : goal.finish_woven-requires-clause-woven
finish_woven-requires-clause-woven g c = c.in-Whole.ensures.whole

pub returns-in-Whole-clause-piped : goal.returns-in-Whole-clause-piped
returns-in-Whole-clause-piped g c = rw c.in-Whole.ensures.feeds at c.finish_woven.ensures.piped

pub drain-requires-in-Memory : goal.drain-requires-in-Memory
drain-requires-in-Memory g c = omega (arith, as_many c.args.stages c.weave.new.stages c.in-Memory.ensures.feeds, c.requires.done_flags)

pub drain-requires : goal.drain-requires
drain-requires g c = omega (arith, as_many c.args.stages c.weave.new.stages c.in-Stopped.ensures.feeds, c.requires.done_flags)

pub stop_all-requires-clause-few : goal.stop_all-requires-clause-few
stop_all-requires-clause-few g c =
    let count = as_many c.args.stages c.drain.new.stages (c.drain.ensures.feeds ∙ c.in-Stopped.ensures.feeds) in
    omega (arith, count, c.requires.many, c.prove_is_plan.ensures.may.few.1)

pub stop_all-requires-clause-named : goal.stop_all-requires-clause-named
stop_all-requires-clause-named g c = λ k f h.
    let same = c.drain.ensures.feeds ∙ c.in-Stopped.ensures.feeds in
    rw same (c.requires.lists.named k f (omega (arith, h, as_many c.args.stages c.drain.new.stages same, c.requires.many)))

pub returns-in-Some-clause-early : goal.returns-in-Some-clause-early
returns-in-Some-clause-early g c =
    rw (c.drain.ensures.feeds ∙ c.in-Stopped.ensures.feeds, c.drain.ensures.gates ∙ c.in-Stopped.ensures.gates) at c.in-Some.ensures

pub returns-in-Stopped-clause-early : goal.returns-in-Stopped-clause-early
returns-in-Stopped-clause-early g c = c.in-Stopped.ensures.stopped
