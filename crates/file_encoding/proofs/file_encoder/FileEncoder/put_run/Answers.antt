use Rattle.std.proofs.Common.{ap₂, ◌+◌, ◌*◌, refl}
use Rattle.file_encoding.proofs.Runs.{rows_after, may_put_run, coded_run}
use Rattle.file_encoding.proofs.file_encoder.FileEncoder.put_run.Goals as goal

pub put_run-requires : goal.put_run-requires
put_run-requires c =
    let time = ap₂ (λ y x. y * c.self.inside.columns + x) c.from.ensures c.from-2.ensures in
    may_put_run _ c.args.place _ c.args.run.now (rw (← c.self.view_is) at c.requires) time

pub invariant_of-self-2 : goal.invariant_of-self-2
invariant_of-self-2 c = (c.self.invariant.0, λ by. rows_after _ _ _ _ c.go_by.ensures (c.self.invariant.1 by))

pub returns-clause-coded : goal.returns-clause-coded
returns-clause-coded c =
    let time = ap₂ (λ y x. y * c.self.inside.columns + x) c.from.ensures c.from-2.ensures in
    rw (← c.self.view_is)
    (coded_run _ _ _ _ _ (rw (← c.self.view_is) at c.requires) c.go_by.ensures time refl refl c.in_ok-put_run.ensures.taken)

pub returns-clause-rows : goal.returns-clause-rows
returns-clause-rows c = rows_after _ _ _ _ c.go_by.ensures (rw (← c.self.view_is) at c.requires).rows
