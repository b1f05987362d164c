use Rattle.std.proofs.Common.{arith}
use Rattle.sample_adaptive.proofs.PieceEnds.{ended_in_range}
use Rattle.sample_adaptive.proofs.piece.piece_ended.Goals as goal

pub returns-clause-range : goal.returns-clause-range
returns-clause-range c =
    let rescaling = c.args.settings.rescaling in
    ended_in_range rescaling.size c.args.s _ rescaling.size_in.0 c.requires (omega (arith, c.if-s-greatest.false, rescaling.greatest_is, c.requires.most))
    (omega (arith, c.if-s-greatest.false, rescaling.greatest_is, c.requires.most))
