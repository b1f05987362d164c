use Rattle.std.proofs.Common.{◌≡◌, ◌++◌, ℕ, List, take, ap, ◌∙◌, Option, Some, None, IsSome, IfSome, append-nil, arith}
use Rattle.lane_workers.specs.States.{standing_of}
use Rattle.lane_workers.proofs.state.State.next_run.Goals as goal

holds_where_some : (P : Type 0) (left : Option (List ℕ)) → IsSome left → IfSome left (λ _. P) → P
holds_where_some P None some p = absurd cc
holds_where_some P (Some numbers) some p = p

pub returns-then-is_over-clause-handed : goal.returns-then-is_over-clause-handed
returns-then-is_over-clause-handed g c =
    let seen = c.seen_run-count in
    let nothing : seen.result ≡ 0 = omega arith in
    let same : (standing_of seen.new.self).handed ≡ (standing_of c.loop.self).handed = seen.ensures.handed ∙ rw nothing (append-nil _) in
    c.seen_run.ensures.handed ∙ ap (λ ns. ns ++ take c.seen_run.result c.seen_run.new.run) (c.replace_with.ensures.1.0 ∙ same ∙ c.loop.invariant.2)

pub returns-then-is_over-clause-none : goal.returns-then-is_over-clause-none
returns-then-is_over-clause-none g c none = holds_where_some _ _ c.replace_with.ensures.1.1 (c.seen_run.ensures.none none)
