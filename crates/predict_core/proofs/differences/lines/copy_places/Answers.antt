use Rattle.std.proofs.Common.{arith}
use Rattle.std.proofs.lemmas.Grind.{elements}
use Rattle.predict_core.proofs.differences.lines.copy_places.Goals as goal

pub returns-then-count-eq-PIECE : goal.returns-then-count-eq-PIECE
returns-then-count-eq-PIECE c = grind (arith, elements)
