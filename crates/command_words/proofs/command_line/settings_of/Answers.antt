use Rattle.std.proofs.Common.{rules}
use Rattle.command_words.proofs.command_line.settings_of.Goals as goal

pub returns-clause-asked : goal.returns-clause-asked
returns-clause-asked c = search rules

pub returns-clause-refused : goal.returns-clause-refused
returns-clause-refused c = search rules
