use Rattle.std.proofs.Common.{arith}
use Rattle.sample_adaptive.proofs.Counting.{counter_range}
use Rattle.sample_adaptive.proofs.Table.{size_power}
use Rattle.sample_adaptive.proofs.eight_run.put_apart.Goals as goal

pub of-requires : goal.of-requires
of-requires c =
    let settings = c.args.run.settings in
    (c.requires.k, settings.bits_in.1, (counter_range _ _ settings.rescaling.size_in.1 c.requires.piece.statistics).1)

pub lower_parameter-k-requires : goal.lower_parameter-k-requires
lower_parameter-k-requires c =
    let settings = c.args.run.settings in
    let power = size_power settings.rescaling.size settings.rescaling.size_in.1 in
    let kept = c.put_each-after.ensures.kept in
    omega (arith, kept.first, kept.k, settings.bits_in, c.requires.piece.thresholds.size, c.requires.piece.within, c.requires.within, power)
