use Rattle.std.proofs.Common.{◌≡◌, ◌≤◌, map, vec_len, vec_capacity, length, take, drop}
use Rattle.std.specs.Vec.Iter.{into_iter_items}
use Rattle.coder_pipe.specs.Piping.{carried}
use Rattle.coder_pipe.specs.Standings.{feeds_of, handed_of}
use Rattle.coder_pipe.proofs.run.finish_all.Given as goal

abbrev pub invariant-loop-stage : goal.invariant-loop-stage
invariant-loop-stage g l =
    record {
      left : into_iter_items l.stage-iterator ≡ drop (vec_len l.lanes) l.fn.stages.items;
      room : vec_capacity l.lanes ≡ vec_capacity l.fn.lanes;
      count : vec_len l.lanes ≤ length l.fn.stages.items;
      handed : take (vec_len l.lanes) (handed_of l.fn.stages.items) ≡ take (vec_len l.lanes) (map g.F.Feed.items (feeds_of l.fn.stages.items));
      lanes : l.lanes.items ≡ take (vec_len l.lanes) (map (λ f. carried (g.F.Feed.items f)) (feeds_of l.fn.stages.items));
    }
