use Rattle.std.proofs.Common.{rules}
use Rattle.command_reports.proofs.report.exit_code.Goals as goal

pub returns-in-Ok-clause-told : goal.returns-in-Ok-clause-told
returns-in-Ok-clause-told c = search rules
