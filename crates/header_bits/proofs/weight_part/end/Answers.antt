use Rattle.std.proofs.Common.{arith}
use Rattle.header_bits.proofs.TablePassing.{weights_total, no_weights_total}
use Rattle.header_bits.proofs.weight_part.end.Goals as goal

pub returns-then-predictor-clause-position : goal.returns-then-predictor-clause-position
returns-then-predictor-clause-position c =
    let size = rw c.count_for.ensures.count at c.table_bits.ensures.total in
    omega (arith, size, weights_total c.args.image.now c.args.predictor.now c.if-predictor.true)

pub returns-else-predictor-clause-position : goal.returns-else-predictor-clause-position
returns-else-predictor-clause-position c = omega (arith, no_weights_total c.args.image.now c.args.predictor.now c.if-predictor.false)
