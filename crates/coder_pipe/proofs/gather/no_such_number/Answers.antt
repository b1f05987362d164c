use Rattle.std.proofs.Common.{◌≤◌, subst}
use Rattle.std.specs.List.{All}
use Rattle.coder_pipe.proofs.gather.no_such_number.Goals as goal

pub never-requires-clause-above : goal.never-requires-clause-above
never-requires-clause-above g c =
    λ all. c.requires.above c.swap_remove.result (subst (λ s. All (λ n. n ≤ c.args.most) s.handed) c.swap_remove.ensures.value all)
