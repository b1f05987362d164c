use Rattle.std.proofs.Common.{rules}
use Rattle.command_words.proofs.Refused.{passed}
use Rattle.command_words.proofs.words.shape.Goals as goal

pub returns-in_err-columns-clause-refused : goal.returns-in_err-columns-clause-refused
returns-in_err-columns-clause-refused c = passed _ _ _ c.from_residual.ensures.1
    (c.in_err-columns.ensures.refused.0, λ s of ranges. c.in_err-columns.ensures.refused.1 s.columns of.columns ranges.columns)

pub returns-in_err-rows-clause-refused : goal.returns-in_err-rows-clause-refused
returns-in_err-rows-clause-refused c = passed _ _ _ c.from_residual-in_err-rows.ensures.1
    (c.in_err-rows.ensures.refused.0, λ s of ranges. c.in_err-rows.ensures.refused.1 s.rows of.rows ranges.rows)

pub returns-in_err-bands-clause-refused : goal.returns-in_err-bands-clause-refused
returns-in_err-bands-clause-refused c = passed _ _ _ c.from_residual-in_err-bands.ensures.1
    (c.in_err-bands.ensures.refused.0, λ s of ranges. c.in_err-bands.ensures.refused.1 s.bands of.bands ranges.bands)

pub returns-clause-read : goal.returns-clause-read
returns-clause-read c = search rules
