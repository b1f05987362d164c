use Rattle.std.proofs.Common.{rules}
use Rattle.command_reports.proofs.report.fault_line.Goals as goal

pub returns-in_err-told-clause-refused : goal.returns-in_err-told-clause-refused
returns-in_err-told-clause-refused c = search rules
