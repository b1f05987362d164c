use Rattle.std.proofs.Common.{arith}
use Rattle.std.proofs.lemmas.Grind.{common_steps}
use Rattle.predict_core.proofs.band.Band.predict_piece.Goals as goal

pub returns : goal.returns
returns c = grind (arith, common_steps)
