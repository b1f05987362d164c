use Rattle.std.proofs.Common.{rules}
use mir.Val.{SFits}
use mir.Syntax.{w32}
use Rattle.ccsds123.proofs.Answering.{answered}
use Rattle.ccsds123.proofs.encoder.ccsds123_encoder_rows.Goals as goal

pub returns : goal.returns
returns c =
    let fits : SFits w32 c.answer.result = search rules in
    answered _ _ _ _ fits c.answer.ensures c.take_rows-outcome.ensures
