use Rattle.std.proofs.Common.{◌≡◌, vec_len}
use Rattle.coder_pipe.specs.Standings.{feeds_of, gates_of}
use Rattle.coder_pipe.proofs.run.drain.Given as goal

abbrev pub invariant-rounds : goal.invariant-rounds
invariant-rounds g l =
    (feeds_of l.stages.items ≡ feeds_of l.initial.stages.items) × (gates_of l.stages.items ≡ gates_of l.initial.stages.items) ×
    (vec_len l.stages ≡ vec_len l.initial.stages)

abbrev pub invariant-loop-q : goal.invariant-loop-q
invariant-loop-q g l =
    (feeds_of l.stages.items ≡ feeds_of l.initial.stages.items) × (gates_of l.stages.items ≡ gates_of l.initial.stages.items) ×
    (vec_len l.stages ≡ vec_len l.initial.stages)
