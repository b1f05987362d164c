use Rattle.std.proofs.Common.{◌≡◌, ◌≤◌, length, take, vec_len}
use Rattle.std.specs.List.{All}
use Rattle.coder_pipe.specs.Standings.{feeds_of, gates_of, handed_of, IsAhead}
use Rattle.coder_pipe.proofs.gather.next_of_column.Given as goal

abbrev pub invariant-loop-i : goal.invariant-loop-i
invariant-loop-i g l =
    record {
      feeds : feeds_of l.stages.items ≡ feeds_of l.initial.stages.items;
      gates : gates_of l.stages.items ≡ gates_of l.initial.stages.items;
      many : vec_len l.stages ≡ vec_len l.initial.stages;
      long : length l.run ≡ length l.initial.run;
      ahead : IsAhead l.plan.params l.plan.deal l.weaver (handed_of l.stages.items) l.taken (take l.i l.run);
      range : All (λ n. n ≤ l.most) (take l.i l.run);
    }
