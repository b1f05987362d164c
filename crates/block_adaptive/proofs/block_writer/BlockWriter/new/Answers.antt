use Rattle.std.proofs.Common.{rules}
use Rattle.block_adaptive.proofs.block_writer.BlockWriter.new.Goals as goal

pub returns-clause-cut : goal.returns-clause-cut
returns-clause-cut c = search rules

pub returns-clause-room : goal.returns-clause-room
returns-clause-room c = search rules
