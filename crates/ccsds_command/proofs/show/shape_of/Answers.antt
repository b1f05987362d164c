use Rattle.std.proofs.Common.{rules}
use Rattle.ccsds_command.proofs.show.shape_of.Goals as goal

pub returns : goal.returns
returns c = search rules
