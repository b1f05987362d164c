use Rattle.std.proofs.Common.{arith}
use Rattle.cube_core.proofs.Offsets.{row_offsets}
use Rattle.cube_core.proofs.cube.Cube.row.Goals as goal

pub returns-clause-samples : goal.returns-clause-samples
returns-clause-samples c =
    rw (c.deref.ensures.value, c.columns.ensures.value) (row_offsets _ _ _ _ _ _ _ c.self.view_is c.self.invariant c.index_at-from.ensures.value (omega arith))
