use Rattle.std.proofs.Common.{refl}
use Rattle.std.specs.Fmt.{digits}
use Rattle.command_reports.specs.Unfold.{everything}
use Rattle.command_reports.proofs.worked.tables.Goals as goal

pub returns-clause-weights : goal.returns-clause-weights
unfolding everything digits
returns-clause-weights c = refl

pub returns-clause-constants : goal.returns-clause-constants
unfolding everything digits
returns-clause-constants c = refl
