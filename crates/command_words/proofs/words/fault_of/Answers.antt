use Rattle.std.proofs.Common.{rules}
use Rattle.command_words.proofs.words.fault_of.Goals as goal

pub returns-in_default : goal.returns-in_default
returns-in_default c = search rules

pub returns-in-OutOfMemory-clause-memory : goal.returns-in-OutOfMemory-clause-memory
returns-in-OutOfMemory-clause-memory c = search
