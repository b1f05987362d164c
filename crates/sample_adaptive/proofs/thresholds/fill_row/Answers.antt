use Rattle.std.proofs.Common.{arith}
use Rattle.sample_adaptive.proofs.Table.{size_power, size_count, one_more}
use Rattle.sample_adaptive.proofs.thresholds.fill_row.Goals as goal

pub threshold-requires : goal.threshold-requires
threshold-requires c =
    let size = c.requires.size.1 in
    (c.requires.bits.0, c.requires.bits.1, omega (arith, c.loop-counter-test.true, size_count _ size, size_power _ size))

pub bounds-table-j : goal.bounds-table-j
bounds-table-j c =
    let size = c.requires.size.1 in
    omega (arith, c.loop-counter.invariant.size, c.requires.row, c.requires.bits, c.loop-counter-test.true, size_count _ size, size_power _ size)

pub loop-counter-preserved : goal.loop-counter-preserved
loop-counter-preserved c =
    let size = c.requires.size.1 in
    one_more _ _ _ _ _ _ size (omega (arith, c.requires.row, c.requires.bits)) (omega (arith, c.loop-counter-test.true, size_count _ size)) c.threshold.ensures
    c.loop-counter.invariant
