use Rattle.std.proofs.Common.{◌+◌, arith}
use Rattle.std.proofs.lemmas.Bool.{ltb-true}
use Rattle.sample_adaptive.proofs.Eights.{neighbours}
use Rattle.sample_adaptive.proofs.Table.{size_power}
use Rattle.sample_adaptive.proofs.eight_run.are_surely.Goals as goal

pub bounds-run-at : goal.bounds-run-at
bounds-run-at c =
    let settings = c.args.run.settings in
    let power = size_power settings.rescaling.size settings.rescaling.size_in.1 in
    omega (arith, c.requires.piece.thresholds.size, c.requires.piece.within, c.requires.within, c.requires.kept.k, c.requires.kept.row, settings.bits_in, power)

pub bounds-run-at-then-run-at : goal.bounds-run-at-then-run-at
bounds-run-at-then-run-at c =
    let settings = c.args.run.settings in
    let power = size_power settings.rescaling.size settings.rescaling.size_in.1 in
    omega (arith, c.requires.piece.thresholds.size, c.requires.piece.within, c.requires.within, c.requires.kept.k, c.requires.kept.row, settings.bits_in, power)

pub returns-then-run-at : goal.returns-then-run-at
returns-then-run-at c less =
    neighbours _ _ _ _ c.requires.piece c.args.codes.k c.args.i (c.args.codes.row + c.args.run.state.statistics.counter + c.args.i) c.requires.kept.k c.requires.within (omega (arith, c.requires.kept.row)) (omega (arith, c.if-run-at.true, c.requires.first))
    (omega (arith, ltb-true c.args.last _ less, c.requires.last))
