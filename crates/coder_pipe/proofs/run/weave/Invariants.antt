use Rattle.std.proofs.Common.{◌≡◌, ◌-◌, vec_len}
use Rattle.coder_pipe.specs.Standings.{feeds_of, gates_of, handed_of, IsWoven}
use Rattle.coder_pipe.proofs.run.weave.Given as goal

abbrev pub invariant-loop-taken : goal.invariant-loop-taken
invariant-loop-taken g l =
    record {
      feeds : feeds_of l.stages.items ≡ feeds_of l.initial.stages.items;
      gates : gates_of l.stages.items ≡ gates_of l.initial.stages.items;
      many : vec_len l.stages ≡ vec_len l.initial.stages;
      woven : IsWoven l.plan.params l.plan.deal l.weaver (handed_of l.stages.items) l.taken;
    }

abbrev pub decreases-loop-taken : goal.decreases-loop-taken
decreases-loop-taken g l = l.total - l.taken
