use Rattle.std.proofs.Common.{◌≡◌, ◌∙◌, ℕ, List, [], ◌∷◌, ◌++◌, take, length, ap, arith, refl}
use Rattle.std.proofs.Math.ListN.{get_or}
use Rattle.lane_workers.proofs.state.State.next_one.Goals as goal

first_taken : (n : ℕ) (run : List ℕ) → n ≡ 1 → length run ≡ 1 → take n run ≡ get_or run 0 0 ∷ []
first_taken n [] one long = absurd (omega (arith, long))
first_taken n (first ∷ rest) one long = rw one refl

pub returns-clause-handed : goal.returns-clause-handed
returns-clause-handed g c =
    let run = c.next_run.new.run in
    c.next_run.ensures.handed ∙ rw (first_taken c.next_run.result run (omega arith) c.next_run.auto.run)
    (ap (λ ns. ns ++ get_or run 0 0 ∷ []) c.in_default.ensures.none)
