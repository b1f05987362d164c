use Rattle.cube_core.proofs.RawBytes.{is_cube}
use Rattle.cube_core.proofs.cube.Cube.prove_is_cube.Goals as goal

pub returns : goal.returns
returns c =
    let columns = rw c.columns-columns.ensures.value at c.columns-columns.ensures.range in
    let rows = rw c.rows-rows.ensures.value at c.rows-rows.ensures.range in
    let bands = rw c.bands-bands.ensures.value at c.bands-bands.ensures.range in
    let bits = rw c.bits-bits.ensures.value at c.bits-bits.ensures.range in
    rw (← c.self.view_is) (is_cube _ _ _ (record { columns = columns; rows = rows; bands = bands }) bits c.self.invariant)
