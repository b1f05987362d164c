use Rattle.std.proofs.Common.{refl}
use Rattle.std.specs.Fmt.{digits}
use Rattle.command_reports.specs.Unfold.{everything}
use Rattle.command_reports.proofs.worked.block_coder.Goals as goal

pub returns : goal.returns
unfolding everything digits
returns c = refl
