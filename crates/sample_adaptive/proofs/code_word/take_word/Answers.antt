use Rattle.std.proofs.Common.{rules}
use Rattle.sample_adaptive.proofs.code_word.take_word.Goals as goal

pub returns-in_ok-residual-in-None-clause-reads : goal.returns-in_ok-residual-in-None-clause-reads
returns-in_ok-residual-in-None-clause-reads c = search rules
