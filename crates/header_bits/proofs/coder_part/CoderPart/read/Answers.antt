use Rattle.std.proofs.Common.{arith, sym, ap, ◌∙◌, true, false, Ok}
use Rattle.std.proofs.lemmas.Result.{err_from_is_err_and}
use Rattle.header_bits.specs.CoderPart.{coder, coder_by}
use Rattle.header_bits.proofs.PartReading.{part_short, part_refused, part_is_read, values_held, coder_size, coder_by_size, coder_is}
use Rattle.header_bits.proofs.coder_part.CoderPart.read.Goals as goal

pub returns-then-left-coder_bits : goal.returns-then-left-coder_bits
returns-then-left-coder_bits c = part_short (coder c.args.at c.args.image.now) c.args.reader.now.left (omega (arith, coder_size c.args.at c.args.image.now))

pub read_values-requires-clause-whole : goal.read_values-requires-clause-whole
read_values-requires-clause-whole c = (omega (arith, coder_by_size true c.args.at c.args.image.now))

pub returns-in_err-test_block : goal.returns-in_err-test_block
returns-in_err-test_block c =
    let p = err_from_is_err_and c.from_residual.result c.from_residual.ensures.1 in
    rw (p.1, p.2) (coder_is true _ _ _ _ c.if-image.true (part_refused (coder_by true c.args.at c.args.image.now) c.args.reader.now.left _ _
    (omega (arith, coder_by_size true c.args.at c.args.image.now)) c.read_values.ensures.values (sym c.in_err-test_block.ensures)))

pub block_part_of-requires : goal.block_part_of-requires
block_part_of-requires c = values_held (coder_by true c.args.at c.args.image.now) c.args.reader.now.left _
    (omega (arith, coder_by_size true c.args.at c.args.image.now)) c.read_values.ensures.values

pub returns-in_ok-test_block : goal.returns-in_ok-test_block
returns-in_ok-test_block c = coder_is true _ _ _ _ c.if-image.true (part_is_read (coder_by true c.args.at c.args.image.now) c.args.reader.now.left _ _
    (omega (arith, coder_by_size true c.args.at c.args.image.now)) c.read_values.ensures.values (sym c.in_ok-test_block.ensures) c.block_part_of.ensures)
    ∙ ap (λ x. Ok (c.block_part_of.result, x)) (sym c.read_values.ensures.left)

pub read_values-requires-else-image-clause-whole : goal.read_values-requires-else-image-clause-whole
read_values-requires-else-image-clause-whole c = (omega (arith, coder_by_size false c.args.at c.args.image.now))

pub test_sample-requires : goal.test_sample-requires
test_sample-requires c = values_held (coder_by false c.args.at c.args.image.now) c.args.reader.now.left _
    (omega (arith, coder_by_size false c.args.at c.args.image.now)) c.read_values-else-image.ensures.values

pub returns-in_err-test_sample : goal.returns-in_err-test_sample
returns-in_err-test_sample c =
    let p = err_from_is_err_and c.from_residual-in_err-test_sample.result c.from_residual-in_err-test_sample.ensures.1 in
    rw (p.1, p.2) (coder_is false _ _ _ _ c.if-image.false (part_refused (coder_by false c.args.at c.args.image.now) c.args.reader.now.left _ _
    (omega (arith, coder_by_size false c.args.at c.args.image.now)) c.read_values-else-image.ensures.values (sym c.in_err-test_sample.ensures)))

pub returns-in_ok-test_sample : goal.returns-in_ok-test_sample
returns-in_ok-test_sample c = coder_is false _ _ _ _ c.if-image.false
    (part_is_read (coder_by false c.args.at c.args.image.now) c.args.reader.now.left _ _ (omega (arith, coder_by_size false c.args.at c.args.image.now))
    c.read_values-else-image.ensures.values (sym c.in_ok-test_sample.ensures) c.sample_part_of.ensures)
    ∙ ap (λ x. Ok (c.sample_part_of.result, x)) (sym c.read_values-else-image.ensures.left)
