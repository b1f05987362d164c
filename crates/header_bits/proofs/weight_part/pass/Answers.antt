use Rattle.std.proofs.Common.{arith}
use Rattle.std.proofs.lemmas.List.{length-drop}
use Rattle.header_bits.proofs.TableNumbers.{total_table}
use Rattle.header_bits.proofs.TablePassing.{weights_absent, weights_short, weights_passed}
use Rattle.header_bits.proofs.weight_part.pass.Goals as goal

pub returns-then-not-predictor : goal.returns-then-not-predictor
returns-then-not-predictor c = weights_absent c.args.image.now c.args.predictor.now c.args.reader.now.left c.if-not-predictor.true

pub returns-then-left-table_bits : goal.returns-then-left-table_bits
returns-then-left-table_bits c =
    let size = rw c.count_for-count.ensures.count at c.table_bits.ensures.total in
    weights_short c.args.image.now c.args.predictor.now c.args.reader.now.left c.if-not-predictor.false (omega (arith, size))

pub skip-requires : goal.skip-requires
skip-requires c = omega (arith, total_table c.count_for-count.result c.args.predictor.now.resolution)

pub pass_fill-requires-clause-whole : goal.pass_fill-requires-clause-whole
pass_fill-requires-clause-whole c =
    let fill = rw c.number_bits-bits.ensures.value at c.fill_of.ensures.value in
    rw c.skip.ensures.left (omega
    (arith, length-drop c.number_bits-bits.result c.args.reader.now.left, total_table c.count_for-count.result c.args.predictor.now.resolution, fill))

pub returns : goal.returns
returns c =
    let size = rw c.count_for-count.ensures.count at c.table_bits.ensures.total in
    let test = rw (
      c.predictor_end.ensures,
      c.fill_of.ensures.value,
      c.skip.ensures.left,
      c.number_bits-bits.ensures.value,
      c.count_for-count.ensures.count,
    ) at c.pass_fill.ensures.test in
    let end =
    rw (c.fill_of.ensures.value, c.skip.ensures.left, c.number_bits-bits.ensures.value, c.count_for-count.ensures.count) at c.pass_fill.ensures.left in
    weights_passed _ _ _ _ _ c.if-not-predictor.false (omega (arith, size)) test end
