use Rattle.std.proofs.lemmas.Result.{err_from_is_err_and}
use Rattle.header_bits.proofs.Tests.{passed, refused, told}
use Rattle.header_bits.proofs.check.check_block.Goals as goal

pub returns-in_err-disagree_if : goal.returns-in_err-disagree_if
returns-in_err-disagree_if c =
    told (err_from_is_err_and c.from_residual-in_err-disagree_if.result c.from_residual-in_err-disagree_if.ensures.1)
    (passed c.in_ok-check_block_size.ensures (refused _ (rw c.bits-deep.ensures.value at c.in_err-disagree_if.ensures)))

pub returns : goal.returns
returns c = passed c.in_ok-check_block_size.ensures (passed (rw c.bits-deep.ensures.value at c.in_ok-disagree_if.ensures) c.in_range.ensures)
