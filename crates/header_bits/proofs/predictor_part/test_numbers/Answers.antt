use Rattle.std.proofs.lemmas.Result.{err_from_is_err_and}
use Rattle.header_bits.specs.Layout.{total}
use Rattle.header_bits.proofs.Tests.{passed, refused}
use Rattle.header_bits.proofs.predictor_part.test_numbers.Goals as goal

pub returns-in_err-check_reserved_at : goal.returns-in_err-check_reserved_at
unfolding total
returns-in_err-check_reserved_at c =
    let p = err_from_is_err_and c.from_residual-in_err-check_reserved_at.result c.from_residual-in_err-check_reserved_at.ensures.1 in
    rw (p.1, p.2) (passed c.in_ok-out_of_range_if.ensures (passed (rw c.bits.ensures.value at c.in_ok-disagree_if.ensures)
    (passed c.in_ok-out_of_range_if-2.ensures (passed c.in_ok-disagree_if-2.ensures (refused _ c.in_err-check_reserved_at.ensures)))))

pub returns : goal.returns
unfolding total
returns c = passed c.in_ok-out_of_range_if.ensures (passed (rw c.bits.ensures.value at c.in_ok-disagree_if.ensures)
    (passed c.in_ok-out_of_range_if-2.ensures (passed c.in_ok-disagree_if-2.ensures (passed c.in_ok-check_reserved_at.ensures c.test_start.ensures))))
