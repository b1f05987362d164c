use Rattle.clap.specs.Matches.{found_of}
use Rattle.clap.specs.Walk.{rows_of}
use Rattle.command_words.proofs.Refused.{passed, no_exponent}
use Rattle.command_words.proofs.option_values.exponent.Goals as goal

pub returns-in_err-code-clause-refused : goal.returns-in_err-code-clause-refused
returns-in_err-code-clause-refused c =
    let refused = rw (c.requires.0, c.requires.1) at c.in_err-code.ensures.refused in
    passed _ _ _ c.from_residual.ensures.1 (refused.0, no_exponent (rows_of (found_of c.args.matches.now)) c.args.name.now refused.1)
