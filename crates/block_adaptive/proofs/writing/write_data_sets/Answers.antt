use Rattle.std.proofs.Common.{arith}
use Rattle.block_adaptive.proofs.Sums.{zero_tests}
use Rattle.block_adaptive.specs.Segments.{segment_rest}
use Rattle.block_adaptive.proofs.writing.write_data_sets.Goals as goal

pub returns-then-zeros-left-clause-appended : goal.returns-then-zeros-left-clause-appended
unfolding segment_rest
returns-then-zeros-left-clause-appended c = grind (arith, zero_tests)

pub returns-then-zeros-left-clause-held : goal.returns-then-zeros-left-clause-held
unfolding segment_rest
returns-then-zeros-left-clause-held c = grind (arith, zero_tests)

pub returns-clause-appended : goal.returns-clause-appended
unfolding segment_rest
returns-clause-appended c = grind (arith, zero_tests)
