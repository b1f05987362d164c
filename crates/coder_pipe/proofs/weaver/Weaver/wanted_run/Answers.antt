use Rattle.std.proofs.Common.{sym, arith, ◌<◌, ◌∙◌}
use Rattle.coder_pipe.proofs.WeaverState.{place_within, row_owned}
use Rattle.coder_pipe.proofs.weaver.Weaver.wanted_run.Goals as goal
use Rattle.coder_pipe.proofs.weaver.Weaver.wanted_run.Goals.{In-Some}

-- the place that comes next is within its row
within_row : (c : In-Some) → c.in-Some.place.x < c.self.inside.shape.columns
within_row c = (place_within _ c.self.inside.order _ 0 c.in-Some.place c.self.invariant c.in-Some.ensures).0.column

pub overflow_sub-columns : goal.overflow_sub-columns
overflow_sub-columns c = omega (arith, within_row (goal.at.overflow_sub-columns c).In-Some, c.columns.ensures.value)

pub returns-then-goes_along_rows-clause-owned : goal.returns-then-goes_along_rows-clause-owned
returns-then-goes_along_rows-clause-owned c =
    rw (← c.self.view_is) (row_owned _ _ _ _ c.min.result c.self.invariant (sym c.goes_along_rows.ensures ∙ c.if-goes_along_rows.true) c.in-Some.ensures
    (omega (arith, within_row (goal.at.returns-then-goes_along_rows-clause-owned c).In-Some, c.columns.ensures.value, c.min.ensures)))

pub returns-then-goes_along_rows-clause-some : goal.returns-then-goes_along_rows-clause-some
returns-then-goes_along_rows-clause-some c = λ more.
    omega (arith, within_row (goal.at.returns-then-goes_along_rows-clause-some c).In-Some, c.columns.ensures.value, c.min.ensures, c.requires)
