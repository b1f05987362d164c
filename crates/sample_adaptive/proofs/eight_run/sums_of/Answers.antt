use Rattle.std.proofs.Common.{◌∙◌, arith}
use Rattle.sample_adaptive.proofs.Counting.{accumulator_range}
use Rattle.sample_adaptive.proofs.Eights.{sum_along}
use Rattle.sample_adaptive.proofs.WordsFrom.{within_piece}
use Rattle.sample_adaptive.proofs.eight_run.sums_of.Goals as goal

pub sums_before-requires : goal.sums_before-requires
sums_before-requires c =
    let most = accumulator_range _ _ c.args.run.settings.rescaling.size_in.1
    (within_piece _ _ _ _ c.requires.piece c.args.i (omega (arith, c.requires.within))) in
    omega (arith, most, c.requires.sum)

pub returns : goal.returns
returns c j within =
    let along = sum_along c.numbers_at-residuals.result c.args.run.residuals.now c.args.i j c.numbers_at-residuals.ensures.long c.requires.within c.numbers_at-residuals.ensures.same (omega (arith, within)) in
    c.sums_before.ensures j within ∙ omega (arith, c.requires.sum, along)
