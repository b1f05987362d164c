use Rattle.std.proofs.Common.{rules}
use Rattle.predict_core.proofs.differences.lines.fill_line_above.Goals as goal

pub returns-else-column : goal.returns-else-column
returns-else-column c = search rules
