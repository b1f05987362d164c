use Rattle.std.proofs.Common.{arith}
use Rattle.std.proofs.lemmas.Grind.{elements}
use Rattle.predict_core.proofs.differences.lines.copy_line.Goals as goal

pub returns : goal.returns
returns c = grind (arith, elements)
