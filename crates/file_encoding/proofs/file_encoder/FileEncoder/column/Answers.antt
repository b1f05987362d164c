use Rattle.std.proofs.Common.{rules}
use Rattle.file_encoding.proofs.file_encoder.FileEncoder.column.Goals as goal

pub returns-clause-along : goal.returns-clause-along
returns-clause-along c = search rules
