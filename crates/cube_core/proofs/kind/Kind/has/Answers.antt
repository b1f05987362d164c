use Rattle.cube_core.proofs.Bounds.{bounded}
use Rattle.std.proofs.Common.{w32, SFits, to_z-of_z}
use Rattle.cube_core.proofs.kind.Kind.has.Goals as goal

pub returns-then-smin-number : goal.returns-then-smin-number
returns-then-smin-number c =
    let least : SFits w32 c.smin.result = record { sfits = c.smin.type_inv } in
    let most : SFits w32 c.smax.result = record { sfits = c.smax.type_inv } in
    rw (to_z-of_z c.ranges.number, to_z-of_z most, c.smax.ensures.value)
    (bounded _ _ _ (rw (to_z-of_z c.ranges.number, to_z-of_z least, c.smin.ensures.value) at c.if-smin-number.true))
