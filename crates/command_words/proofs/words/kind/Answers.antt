use Rattle.command_words.proofs.Refused.{passed}
use Rattle.command_words.proofs.words.kind.Goals as goal

pub returns-in_err-bits-clause-refused : goal.returns-in_err-bits-clause-refused
returns-in_err-bits-clause-refused c =
    passed _ _ _ c.from_residual.ensures.1 (c.in_err-bits.ensures.refused.0, λ k of range. c.in_err-bits.ensures.refused.1 k.bits of.bits range)
