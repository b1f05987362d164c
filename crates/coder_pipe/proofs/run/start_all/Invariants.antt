use Rattle.std.proofs.Common.{◌≡◌, ◌+◌, ◌≤◌, ◌++◌, map, vec_len, vec_capacity, [], length}
use Rattle.std.specs.List.{All}
use Rattle.std.specs.Vec.Iter.{into_iter_items, into_iter_len}
use Rattle.coder_pipe.specs.Standings.{feeds_of, gates_of, handed_of}
use Rattle.coder_pipe.proofs.run.start_all.Given as goal

abbrev pub invariant-loop-ready : goal.invariant-loop-ready
invariant-loop-ready g l =
    record {
      feeds : feeds_of l.stages.items ++ map (λ r. r.feed) (into_iter_items l.ready-iterator) ≡ map (λ r. r.feed) l.fn.prepared.items;
      room : vec_len l.stages + into_iter_len l.ready-iterator ≤ vec_capacity l.stages;
      count : vec_len l.stages + into_iter_len l.ready-iterator ≡ length l.done_flags;
      gates : All (λ w. w ≡ l.gate) (gates_of l.stages.items);
      none : All (λ r. r ≡ []) (handed_of l.stages.items);
    }
