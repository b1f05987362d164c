use Rattle.std.proofs.Common.{rules}
use Rattle.command_words.proofs.words.files.Goals as goal

pub returns-clause-apart : goal.returns-clause-apart
returns-clause-apart c = search rules
