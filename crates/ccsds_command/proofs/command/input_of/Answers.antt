use Rattle.std.proofs.Common.{rules}
use Rattle.ccsds_command.proofs.command.input_of.Goals as goal

pub returns-in-Compress-clause-opened : goal.returns-in-Compress-clause-opened
returns-in-Compress-clause-opened g c = search rules

pub returns-in-Compress-clause-refused : goal.returns-in-Compress-clause-refused
returns-in-Compress-clause-refused g c = search rules
