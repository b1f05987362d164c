use Rattle.std.proofs.Common.{arith}
use Rattle.predict_core.proofs.Borders.{ends_written}
use Rattle.predict_core.proofs.differences.lines.fill_line.Goals as goal

pub returns-else-x-ge1 : goal.returns-else-x-ge1
returns-else-x-ge1 c =
    let long = c.copy_places.auto.line in
    ends_written _ _ _ _ _ _ _ _ (omega arith) c.requires.inside c.copy_places.ensures c.offset_at.ensures c.offset_at-else-x-ge1.ensures
