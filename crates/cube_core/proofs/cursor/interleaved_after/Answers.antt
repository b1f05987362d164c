use Rattle.std.proofs.Common.{arith}
use Rattle.cube_core.proofs.Walks.{bands_of_group, next_in_row, next_group, next_line}
use Rattle.cube_core.proofs.cursor.interleaved_after.Goals as goal

pub returns-then-z-end : goal.returns-then-z-end
returns-then-z-end c =
    let on = bands_of_group c.args.shape c.args.depth c.args.spot 1 c.requires.depth.0 c.requires.spot c.if-z-end.true in
    record { spot = on.0; next = on.1 }

pub returns-then-x-columns : goal.returns-then-x-columns
returns-then-x-columns c = let on = next_in_row _ _ _ c.requires.depth.0 c.requires.spot c.if-z-end.false (omega arith) in record { spot = on.0; next = on.1 }

pub returns-then-end-bands : goal.returns-then-end-bands
returns-then-end-bands c =
    let on = next_group _ _ _ c.requires.depth.0 c.requires.spot c.if-z-end.false (omega arith) (omega arith) in
    record { spot = rw (c.min.ensures, c.bands-then-end-bands.ensures.value) on.0; next = on.1 }

pub returns-else-end-bands : goal.returns-else-end-bands
returns-else-end-bands c =
    let on = next_line _ _ _ c.requires.depth.0 c.requires.depth.1 c.requires.spot c.if-z-end.false (omega arith) (omega arith) c.requires.more in
    record { spot = on.0; next = on.1 }
