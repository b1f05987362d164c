use Rattle.std.proofs.Common.{rules}
use Rattle.command_words.proofs.options.required.Goals as goal

pub returns : goal.returns
returns c = search rules
