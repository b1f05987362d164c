use Rattle.std.proofs.Common.{rules}
use Rattle.clap.specs.Matches.{found_of}
use Rattle.clap.specs.Walk.{rows_of}
use Rattle.command_words.proofs.Refused.{passed, no_order}
use Rattle.command_words.proofs.words.order.Goals as goal

pub returns-in_err-depth-clause-refused : goal.returns-in_err-depth-clause-refused
returns-in_err-depth-clause-refused c =
    passed _ _ _ c.from_residual.ensures.1 (c.in_err-depth.ensures.refused.0, no_order (rows_of (found_of c.args.matches.now)) c.in_err-depth.ensures.refused.1)

pub returns-in-Some-bsq-clause-read : goal.returns-in-Some-bsq-clause-read
returns-in-Some-bsq-clause-read c = search rules

pub returns-in-Some-bi-clause-depth : goal.returns-in-Some-bi-clause-depth
returns-in-Some-bi-clause-depth c = search rules
