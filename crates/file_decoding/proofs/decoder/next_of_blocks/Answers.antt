use Rattle.std.proofs.Common.{rules}
use Rattle.block_adaptive.proofs.Given.{more_given}
use Rattle.file_decoding.proofs.Givers.{blocks_give}
use Rattle.file_decoding.proofs.decoder.next_of_blocks.Goals as goal

pub returns-clause-given : goal.returns-clause-given
returns-clause-given c = λ zs ts index m.
    let did = c.next_run.ensures in
    blocks_give (λ _. c.next_run.new.numbers) _ m.params m.numbers m.bits _ _ _ m.given.coder
    (more_given (λ _. c.next_run.new.numbers) _ m.params _ _ m.numbers m.bits _ _ m.given did.given did.cut (search rules) did.inside)
