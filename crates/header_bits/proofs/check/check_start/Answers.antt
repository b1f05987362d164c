use Rattle.std.proofs.lemmas.Result.{err_from_is_err_and}
use Rattle.header_bits.proofs.Tests.{passed, refused}
use Rattle.header_bits.proofs.check.check_start.Goals as goal

pub returns-in_err-disagree_if-2 : goal.returns-in_err-disagree_if-2
returns-in_err-disagree_if-2 c =
    let p = err_from_is_err_and c.from_residual-in_err-disagree_if-2.result c.from_residual-in_err-disagree_if-2.ensures.1 in
    let other = rw (c.as_slice-weights.ensures, c.weight_count-count.ensures.count, c.bands-bands.ensures.value) at c.in_err-disagree_if-2.ensures in
    rw (c.in-Table.is, p.1, p.2) (passed c.in_ok-out_of_range_if.ensures (passed c.in_ok-disagree_if.ensures (refused _ other)))
