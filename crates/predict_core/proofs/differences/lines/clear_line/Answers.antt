use Rattle.std.proofs.Common.{pos}
use Rattle.std.proofs.lemmas.List.{get_or-replicate}
use Rattle.predict_core.proofs.differences.lines.clear_line.Goals as goal

pub returns : goal.returns
returns c i l = get_or-replicate 64 i (pos 0) (pos 0) l
