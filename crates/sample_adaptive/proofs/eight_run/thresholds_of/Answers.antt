use Rattle.std.proofs.Common.{◌≡◌, ◌+◌, ◌*◌, ◌<◌, ◌∙◌, ℕ, arith}
use Rattle.lanes.specs.Lanes.{number}
use Rattle.sample_adaptive.specs.Thresholds.{threshold}
use Rattle.sample_adaptive.proofs.Eights.{threshold_small}
use Rattle.sample_adaptive.proofs.PieceEnds.{entry_is}
use Rattle.sample_adaptive.proofs.Table.{size_power}
use Rattle.sample_adaptive.proofs.eight_run.thresholds_of.Goals as goal

pub long_numbers_at-requires : goal.long_numbers_at-requires
long_numbers_at-requires c =
    let settings = c.args.run.settings in
    let power = size_power settings.rescaling.size settings.rescaling.size_in.1 in
    omega (arith, c.requires.piece.thresholds.size, c.requires.piece.within, c.requires.within, c.requires.kept.k, c.requires.kept.row, c.requires.above, settings.bits_in, power)

lane : (c : goal.After-long_numbers_at) (j : ℕ) → j < 8
    → number c.long_numbers_at.result j ≡ threshold c.args.run.settings.bits (c.args.codes.k + c.args.above) (c.args.run.state.statistics.counter + (c.args.i + j))
lane c j few =
    let settings = c.args.run.settings in
    let counter : ℕ = c.args.run.state.statistics.counter + (c.args.i + j) in
    let at : ℕ = c.args.codes.row + c.args.run.state.statistics.counter + c.args.i + 520 * c.args.above + j in
    c.long_numbers_at.ensures j few
    ∙ entry_is settings.bits settings.rescaling.size (c.args.codes.k + c.args.above) counter at c.args.run.thresholds.now c.requires.piece.thresholds
    (omega (arith, c.requires.kept.k, c.requires.above))
    (omega (arith, c.requires.piece.within, c.requires.within, few)) (omega (arith, c.requires.kept.row))

pub returns-clause-lanes : goal.returns-clause-lanes
returns-clause-lanes c j few = lane c j few

pub returns-clause-small : goal.returns-clause-small
returns-clause-small c j few =
    let settings = c.args.run.settings in
    let power = size_power settings.rescaling.size settings.rescaling.size_in.1 in
    let small = threshold_small settings.bits (c.args.codes.k + c.args.above) (c.args.run.state.statistics.counter + (c.args.i + j)) settings.bits_in.1
    (omega (arith, c.requires.piece.within, c.requires.within, few, power)) in
    omega (arith, lane c j few, small)
