use Rattle.clap.specs.Matches.{found_of}
use Rattle.clap.specs.Walk.{rows_of}
use Rattle.command_words.proofs.Refused.{passed, no_gamma_star, no_gamma_zero, no_k, no_umax}
use Rattle.command_words.proofs.words.sample_coder.Goals as goal

pub returns-in_err-number-clause-refused : goal.returns-in_err-number-clause-refused
returns-in_err-number-clause-refused c = passed _ _ _ c.from_residual.ensures.1
    (c.in_err-number.ensures.refused.0, no_umax (rows_of (found_of c.args.matches.now)) c.in_err-number.ensures.refused.1)

pub returns-in_err-number-2-clause-refused : goal.returns-in_err-number-2-clause-refused
returns-in_err-number-2-clause-refused c = passed _ _ _ c.from_residual-in_err-number-2.ensures.1
    (c.in_err-number-2.ensures.refused.0, no_gamma_star (rows_of (found_of c.args.matches.now)) c.in_err-number-2.ensures.refused.1)

pub returns-in_err-number-3-clause-refused : goal.returns-in_err-number-3-clause-refused
returns-in_err-number-3-clause-refused c = passed _ _ _ c.from_residual-in_err-number-3.ensures.1
    (c.in_err-number-3.ensures.refused.0, no_gamma_zero (rows_of (found_of c.args.matches.now)) c.in_err-number-3.ensures.refused.1)

pub returns-in_err-number-4-clause-refused : goal.returns-in_err-number-4-clause-refused
returns-in_err-number-4-clause-refused c = passed _ _ _ c.from_residual-in_err-number-4.ensures.1
    (c.in_err-number-4.ensures.refused.0, no_k (rows_of (found_of c.args.matches.now)) c.in_err-number-4.ensures.refused.1)
