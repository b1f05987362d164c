use Rattle.std.proofs.Common.{arith, sym, ap, ◌∙◌, Ok}
use Rattle.std.proofs.lemmas.Result.{err_from_is_err_and}
use Rattle.header_bits.specs.ImagePart.{image}
use Rattle.header_bits.proofs.PartReading.{part_short, part_refused, part_is_read, values_held, image_size}
use Rattle.header_bits.proofs.image_part.ImagePart.read.Goals as goal

pub returns-then-left-image_end : goal.returns-then-left-image_end
returns-then-left-image_end c = part_short image c.args.reader.now.left (omega (arith, image_size))

pub read_values-requires-clause-whole : goal.read_values-requires-clause-whole
unfolding image
read_values-requires-clause-whole c = omega (arith, image_size)

pub returns-in_err-test : goal.returns-in_err-test
unfolding image
returns-in_err-test c =
    let p = err_from_is_err_and c.from_residual.result c.from_residual.ensures.1 in
    rw (p.1, p.2) (part_refused image c.args.reader.now.left _ _ (omega (arith, image_size)) c.read_values.ensures.values (sym c.in_err-test.ensures))

pub part_of-requires-clause-held : goal.part_of-requires-clause-held
unfolding image
part_of-requires-clause-held c = values_held image c.args.reader.now.left _ (omega (arith, image_size)) c.read_values.ensures.values

pub returns : goal.returns
unfolding image
returns c = part_is_read image c.args.reader.now.left _ _ (omega (arith, image_size)) c.read_values.ensures.values (sym c.in_ok-test.ensures) c.part_of.ensures
    ∙ ap (λ x. Ok (c.part_of.result, x)) (sym c.read_values.ensures.left)
