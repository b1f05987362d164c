use Rattle.std.proofs.Common.{ap₂, ◌+◌, ◌*◌, refl}
use Rattle.file_encoding.proofs.Runs.{rows_after}
use Rattle.file_encoding.proofs.Columns.{may_put_column, coded_column}
use Rattle.file_encoding.proofs.file_encoder.FileEncoder.put_column.Goals as goal

pub put_column-requires : goal.put_column-requires
put_column-requires c = may_put_column _ _ _ (rw (← c.self.view_is) at c.requires)

pub invariant_of-self-2 : goal.invariant_of-self-2
invariant_of-self-2 c = (c.self.invariant.0, λ by. rows_after _ _ _ _ c.go_by.ensures (c.self.invariant.1 by))

pub returns-clause-coded : goal.returns-clause-coded
returns-clause-coded c =
    let time = ap₂ (λ y x. y * c.self.inside.columns + x) c.from.ensures c.from-2.ensures in
    rw (← c.self.view_is) (coded_column _ _ _ _ _ (rw (← c.self.view_is) at c.requires) c.go_by.ensures time refl refl c.in_ok-put_column.ensures.taken)
