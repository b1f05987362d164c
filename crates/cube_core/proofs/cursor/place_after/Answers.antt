use Rattle.std.proofs.Common.{◌≡◌, ◌+◌, arith}
use Rattle.cube_core.proofs.Walks.{columns_on, next_row, next_band, band_follows}
use Rattle.cube_core.proofs.cursor.place_after.Goals as goal

pub returns-then-x-columns-clause-next : goal.returns-then-x-columns-clause-next
returns-then-x-columns-clause-next c = columns_on c.args.shape c.args.place 1

pub returns-then-y-rows-clause-next : goal.returns-then-y-rows-clause-next
returns-then-y-rows-clause-next c = next_row c.args.shape c.args.place (omega (arith, c.columns.ensures.value, c.requires.place.column))

pub returns-else-y-rows-clause-place : goal.returns-else-y-rows-clause-place
returns-else-y-rows-clause-place c =
    let last : c.args.place.x + 1 ≡ c.args.shape.columns = omega (arith, c.columns.ensures.value, c.requires.place.column) in
    let lowest : c.args.place.y + 1 ≡ c.args.shape.rows = omega (arith, c.rows.ensures.value, c.requires.place.row) in
    record { band = band_follows c.args.shape c.args.place last lowest c.requires.more; row = omega arith; column = omega arith }

pub returns-else-y-rows-clause-next : goal.returns-else-y-rows-clause-next
returns-else-y-rows-clause-next c = next_band _ _ (omega arith) (omega arith)
