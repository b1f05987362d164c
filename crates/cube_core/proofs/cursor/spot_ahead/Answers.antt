use Rattle.std.proofs.Common.{◌*◌, ◌≤◌, arith, sym, ◌∙◌}
use Rattle.cube_core.proofs.Walks.{columns_of_row, before_end, bands_of_column, columns_of_group, spot_place}
use Rattle.cube_core.proofs.cursor.spot_ahead.Goals as goal

pub returns-then-goes_along_rows : goal.returns-then-goes_along_rows
returns-then-goes_along_rows c =
    let on = columns_of_row _ _ _ _ (sym c.goes_along_rows.ensures ∙ c.if-goes_along_rows.true) c.requires.spot
    (omega (arith, (spot_place c.args.shape c.args.order c.args.spot c.requires.spot).column)) in
    record { spot = on.0; index = on.1; most = omega arith }

pub returns-else-goes_along_rows : goal.returns-else-goes_along_rows
returns-else-goes_along_rows c =
    let along = sym c.goes_along_rows.ensures ∙ c.if-goes_along_rows.false in
    let before = before_end c.args.shape c.args.order c.args.spot c.requires.order along c.requires.spot in
    let column = columns_of_group c.args.shape c.args.order c.args.spot c.columns_within-columns.result c.requires.order along c.requires.spot
    c.columns_within-columns.ensures.inside in
    let on = bands_of_column c.args.shape c.args.order _ c.min-on-else-goes_along_rows.result c.requires.order along column.0 (omega (arith, before)) in
    let few : c.columns_within-columns.result * c.from-else-goes_along_rows.result ≤ c.args.most =
    rw c.from-else-goes_along_rows.ensures c.columns_within-columns.ensures.few in
    record { spot = on.0; index = rw c.from-else-goes_along_rows.ensures (omega (arith, on.1, column.1)); most = omega (arith, few) }
