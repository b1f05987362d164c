use Rattle.std.proofs.Common.{rules}
use Rattle.clap.specs.Matches.{found_of}
use Rattle.clap.specs.Walk.{rows_of}
use Rattle.command_words.proofs.Refused.{passed, no_size, no_reference}
use Rattle.command_words.proofs.words.block_coder.Goals as goal

pub returns-in_err-size-clause-refused : goal.returns-in_err-size-clause-refused
returns-in_err-size-clause-refused c =
    passed _ _ _ c.from_residual.ensures.1 (c.in_err-size.ensures.refused.0, no_size (rows_of (found_of c.args.matches.now)) c.in_err-size.ensures.refused.1)

pub returns-in_err-number-clause-refused : goal.returns-in_err-number-clause-refused
returns-in_err-number-clause-refused c =
    passed _ _ _ c.from_residual-in_err-number.ensures.1
    (c.in_err-number.ensures.refused.0, no_reference (rows_of (found_of c.args.matches.now)) c.in_err-number.ensures.refused.1)

pub returns-clause-read : goal.returns-clause-read
returns-clause-read c = search rules

pub returns-then-not-is_block_size-clause-refused : goal.returns-then-not-is_block_size-clause-refused
returns-then-not-is_block_size-clause-refused c = search rules
