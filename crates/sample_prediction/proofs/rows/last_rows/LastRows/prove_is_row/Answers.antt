use Rattle.std.proofs.lemmas.Nat.{pow_pos}
use Rattle.sample_prediction.specs.HandedRows.{image_of_rows}
use Rattle.sample_prediction.proofs.HandedRows.{image_is_cube}
use Rattle.sample_prediction.proofs.rows.last_rows.LastRows.prove_is_row.Goals as goal

pub returns-clause-cube : goal.returns-clause-cube
returns-clause-cube c =
    let columns = rw c.columns-columns.ensures.value at c.columns-columns.ensures.range in
    let rows = rw c.rows-rows.ensures.value at c.rows-rows.ensures.range in
    let bands = rw c.bands-bands.ensures.value at c.bands-bands.ensures.range in
    let bits = rw c.bits-bits.ensures.value at c.bits-bits.ensures.range in
    rw (← c.self.view_is)
    (image_is_cube _ _ _ c.self.invariant.range (pow_pos _) (record { columns = columns; rows = rows; bands = bands }) bits)

pub returns-clause-row : goal.returns-clause-row
unfolding image_of_rows
returns-clause-row c = rw (← c.self.view_is) c.self.invariant.row
