use Rattle.std.proofs.Common.{arith}
use Rattle.sample_adaptive.proofs.Counting.{counter_range, accumulator_range, product_whole, parameter_stays}
use Rattle.sample_adaptive.proofs.band_state.BandState.update_k.Goals as goal

pub level-level-requires : goal.level-level-requires
level-level-requires c =
    let size = (c.args.settings.rescaling.size_in).1 in
    ((counter_range _ _ size c.requires.statistics).1, accumulator_range _ _ size c.requires.statistics)

pub returns-then-level-scaled_counter-clause-value : goal.returns-then-level-scaled_counter-clause-value
returns-then-level-scaled_counter-clause-value c =
    let size = (c.args.settings.rescaling.size_in).1 in
    let scaled = product_whole c.args.self.now.statistics.counter c.args.self.now.k (counter_range _ _ size c.requires.statistics).1 (omega (arith, c.requires.k, c.args.settings.bits_in)) in
    let level = c.level-level.ensures in
    parameter_stays _ _ _ c.requires.k (omega (arith, scaled, level)) (omega (arith, scaled, level))
