use Rattle.std.proofs.lemmas.Result.{err_from_is_err_and}
use Rattle.header_bits.proofs.Tests.{passed, refused, told}
use Rattle.header_bits.proofs.check.check_sample.Goals as goal

pub returns-in_err-in_range : goal.returns-in_err-in_range
returns-in_err-in_range c = told (err_from_is_err_and c.from_residual.result c.from_residual.ensures.1) (refused _ c.in_err-in_range.ensures)

pub returns-in_err-in_range-2 : goal.returns-in_err-in_range-2
returns-in_err-in_range-2 c =
    told (err_from_is_err_and c.from_residual-in_err-in_range-2.result c.from_residual-in_err-in_range-2.ensures.1)
    (passed c.in_ok-in_range.ensures (refused _ c.in_err-in_range-2.ensures))

pub returns-in_err-in_range-3 : goal.returns-in_err-in_range-3
returns-in_err-in_range-3 c =
    told (err_from_is_err_and c.from_residual-in_err-in_range-3.result c.from_residual-in_err-in_range-3.ensures.1)
    (passed c.in_ok-in_range.ensures (passed c.in_ok-in_range-2.ensures (refused _ c.in_err-in_range-3.ensures)))

pub returns-in_err-disagree_if : goal.returns-in_err-disagree_if
returns-in_err-disagree_if c =
    told (err_from_is_err_and c.from_residual-in_err-disagree_if.result c.from_residual-in_err-disagree_if.ensures.1)
    (passed c.in_ok-in_range.ensures (passed c.in_ok-in_range-2.ensures
    (passed c.in_ok-in_range-3.ensures (refused _ c.in_err-disagree_if.ensures))))

pub returns : goal.returns
returns c = passed c.in_ok-in_range.ensures (passed c.in_ok-in_range-2.ensures (passed c.in_ok-in_range-3.ensures
    (passed c.in_ok-disagree_if.ensures c.check_count.ensures)))
