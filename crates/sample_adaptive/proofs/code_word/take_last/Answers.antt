use Rattle.std.proofs.Common.{rules}
use Rattle.sample_adaptive.specs.Reading.{escape_at, plain_at, word_at}
use Rattle.sample_adaptive.proofs.code_word.take_last.Goals as goal

pub returns-in_ok-residual-clause-reads : goal.returns-in_ok-residual-clause-reads
unfolding word_at plain_at escape_at
returns-in_ok-residual-clause-reads c = search rules

pub returns-in_err-residual-clause-reads : goal.returns-in_err-residual-clause-reads
unfolding word_at plain_at escape_at
returns-in_err-residual-clause-reads c = search rules

pub escaped-requires-clause-residual : goal.escaped-requires-clause-residual
escaped-requires-clause-residual c = search rules

pub returns-in_ok-residual-clause-below : goal.returns-in_ok-residual-clause-below
returns-in_ok-residual-clause-below c = search rules
