use Rattle.std.proofs.Common.{arith, sym, ap, ◌∙◌, Ok}
use Rattle.std.proofs.lemmas.Result.{err_from_is_err_and}
use Rattle.header_bits.specs.PredictorPart.{predictor}
use Rattle.header_bits.proofs.PartReading.{part_short, part_refused, part_is_read, values_held, predictor_size}
use Rattle.header_bits.proofs.predictor_part.PredictorPart.read.Goals as goal

pub returns-then-left-predictor_bits : goal.returns-then-left-predictor_bits
returns-then-left-predictor_bits c = part_short (predictor c.args.image.now) c.args.reader.now.left (omega (arith, predictor_size c.args.image.now))

pub read_values-requires-clause-whole : goal.read_values-requires-clause-whole
unfolding predictor
read_values-requires-clause-whole c = omega (arith, predictor_size c.args.image.now)

pub test-requires : goal.test-requires
unfolding predictor
test-requires c = values_held (predictor c.args.image.now) _ _ (omega (arith, predictor_size c.args.image.now)) c.read_values.ensures.values

pub returns-in_err-test : goal.returns-in_err-test
unfolding predictor
returns-in_err-test c =
    let p = err_from_is_err_and c.from_residual.result c.from_residual.ensures.1 in
    rw (p.1, p.2) (part_refused (predictor c.args.image.now) _ _ _ (omega (arith, predictor_size c.args.image.now)) c.read_values.ensures.values
    (sym c.in_err-test.ensures))

pub part_of-requires : goal.part_of-requires
unfolding predictor
part_of-requires c = values_held (predictor c.args.image.now) _ _ (omega (arith, predictor_size c.args.image.now)) c.read_values.ensures.values

pub returns : goal.returns
unfolding predictor
returns c = part_is_read (predictor c.args.image.now) _ _ _ (omega (arith, predictor_size c.args.image.now)) c.read_values.ensures.values
    (sym c.in_ok-test.ensures) c.part_of.ensures
    ∙ ap (λ x. Ok (c.part_of.result, x)) (sym c.read_values.ensures.left)
