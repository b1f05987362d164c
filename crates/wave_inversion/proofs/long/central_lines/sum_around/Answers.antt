use Rattle.std.proofs.Common.{arith}
use Rattle.std.proofs.lemmas.Int.{ints}
use Rattle.wave_inversion.proofs.long.central_lines.sum_around.Goals as goal

pub returns-else-column-clause-value : goal.returns-else-column-clause-value
returns-else-column-clause-value c =
    let r = c.requires in
    rw c.if-column.false (omega (arith, ints, r.west_in.0, r.west_in.1, r.north_west_in.0, r.north_west_in.1, r.north_in.0, r.north_in.1, r.north_east_in.0, r.north_east_in.1))
