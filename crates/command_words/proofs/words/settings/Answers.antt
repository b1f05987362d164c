use Rattle.std.proofs.lemmas.Grind.{common_steps}
use Rattle.std.proofs.Common.{arith}
use Rattle.command_words.proofs.words.settings.Goals as goal

pub returns-in-show-clause-asked : goal.returns-in-show-clause-asked
returns-in-show-clause-asked c = grind (arith, common_steps)
