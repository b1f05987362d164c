use Rattle.std.proofs.Common.{◌≡◌, ◌≤◌, length, drop, IfSome}
use Rattle.std.specs.Vec.Iter.{into_iter_items}
use Rattle.coder_pipe.specs.Standings.{feeds_of, gates_of}
use Rattle.coder_pipe.specs.Stops.{MayStopAt}
use Rattle.coder_pipe.proofs.run.stop_all.Given as goal

abbrev pub invariant-loop-stage : goal.invariant-loop-stage
invariant-loop-stage g l =
    record {
      left : into_iter_items l.stage-iterator ≡ drop l.q l.fn.stages.items;
      count : l.q ≤ length l.fn.stages.items;
      first : IfSome l.first (λ r. MayStopAt g.G.Gate.may_stop g.F.Feed.items (feeds_of l.fn.stages.items) (gates_of l.fn.stages.items) r.0 r.1);
    }
