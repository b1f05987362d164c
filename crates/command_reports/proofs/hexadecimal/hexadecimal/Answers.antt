use Rattle.std.proofs.Common.{rules}
use Rattle.command_reports.proofs.hexadecimal.hexadecimal.Goals as goal

pub returns-clause-text : goal.returns-clause-text
returns-clause-text c = search rules
