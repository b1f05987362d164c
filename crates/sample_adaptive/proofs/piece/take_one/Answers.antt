use Rattle.std.proofs.Common.{◌∙◌}
use Rattle.sample_adaptive.proofs.PieceEnds.{next_counted}
use Rattle.sample_adaptive.proofs.piece.take_one.Goals as goal

pub returns-clause-counts : goal.returns-clause-counts
returns-clause-counts c =
    c.piece_ended.ensures.value
    ∙ next_counted c.args.settings.rescaling.size c.args.statistics.now c.counted.result c.in_ok-residual.residual c.requires.statistics.most c.counted.ensures
