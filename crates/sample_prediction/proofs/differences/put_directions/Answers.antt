use Rattle.std.proofs.Common.{to_z-of_z, arith}
use Rattle.sample_prediction.proofs.Directions.{three_written, three_over}
use Rattle.sample_prediction.proofs.differences.put_directions.Goals as goal

pub returns-clause-value : goal.returns-clause-value
returns-clause-value c = rw (to_z-of_z c.ranges.north, to_z-of_z c.ranges.west, to_z-of_z c.ranges.north_west) (three_written _ _ _ _ (omega arith))

pub returns-clause-bound : goal.returns-clause-bound
returns-clause-bound c within =
    let w = three_written c.args.out.now c.args.north c.args.west c.args.north_west (omega arith) in
    rw (to_z-of_z c.ranges.north, to_z-of_z c.ranges.west, to_z-of_z c.ranges.north_west, w)
    (three_over 262144 c.args.out.now c.args.north c.args.west c.args.north_west c.requires.north_in c.requires.west_in c.requires.north_west_in within)
