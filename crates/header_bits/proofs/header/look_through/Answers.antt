use Rattle.std.proofs.lemmas.Result.{err_from_is_err_and}
use Rattle.header_bits.proofs.SpeltLawful.{start_read}
use Rattle.header_bits.proofs.Headers.{image_refused, predictor_refused, weights_refused, coder_refused, constants_refused, parts_found}
use Rattle.header_bits.proofs.HeaderTexts.{are_there}
use Rattle.header_bits.proofs.header.look_through.Goals as goal

pub returns-in_err-image-clause-reads : goal.returns-in_err-image-clause-reads
returns-in_err-image-clause-reads c =
    let p = err_from_is_err_and c.from_residual.result c.from_residual.ensures.1 in
    rw (p.1, p.2) (image_refused c.args.reader.now.left c.in_err-image.field-0.0 c.in_err-image.ensures)

pub returns-in_err-predictor-clause-reads : goal.returns-in_err-predictor-clause-reads
returns-in_err-predictor-clause-reads c =
    let p = err_from_is_err_and c.from_residual-in_err-predictor.result c.from_residual-in_err-predictor.ensures.1 in
    rw (p.1, p.2) (predictor_refused _ _ _ _ c.in_ok-image.ensures c.in_err-predictor.ensures)

pub pass-requires-clause-previous : goal.pass-requires-clause-previous
pass-requires-clause-previous c = (start_read _ _ _ _ _ c.in_ok-image.ensures c.in_ok-predictor.ensures).0

pub pass-requires-clause-resolution : goal.pass-requires-clause-resolution
pass-requires-clause-resolution c = (start_read _ _ _ _ _ c.in_ok-image.ensures c.in_ok-predictor.ensures).1

pub returns-in_err-pass-clause-reads : goal.returns-in_err-pass-clause-reads
returns-in_err-pass-clause-reads c =
    let p = err_from_is_err_and c.from_residual-in_err-pass.result c.from_residual-in_err-pass.ensures.1 in
    rw (p.1, p.2) (weights_refused _ _ _ _ _ _ (record { image = c.in_ok-image.ensures; predictor = c.in_ok-predictor.ensures }) c.in_err-pass.ensures)

pub end-position-requires-clause-previous : goal.end-position-requires-clause-previous
end-position-requires-clause-previous c = (start_read _ _ _ _ _ c.in_ok-image.ensures c.in_ok-predictor.ensures).0

pub end-position-requires-clause-resolution : goal.end-position-requires-clause-resolution
end-position-requires-clause-resolution c = (start_read _ _ _ _ _ c.in_ok-image.ensures c.in_ok-predictor.ensures).1

pub returns-in_err-coder-clause-reads : goal.returns-in_err-coder-clause-reads
returns-in_err-coder-clause-reads c =
    let p = err_from_is_err_and c.from_residual-in_err-coder.result c.from_residual-in_err-coder.ensures.1 in
    let bad = rw c.end-position.ensures.position at c.in_err-coder.ensures in
    rw (p.1, p.2) (coder_refused _ _ _ _ _ _ _ _ (record { image = c.in_ok-image.ensures; predictor = c.in_ok-predictor.ensures }) c.in_ok-pass.ensures bad)

pub returns-in_err-pass-2-clause-reads : goal.returns-in_err-pass-2-clause-reads
returns-in_err-pass-2-clause-reads c =
    let p = err_from_is_err_and c.from_residual-in_err-pass-2.result c.from_residual-in_err-pass-2.ensures.1 in
    let coder_read = rw c.end-position.ensures.position at c.in_ok-coder.ensures in
    let bad = rw (c.coder_bits.ensures, c.end-position.ensures.position) at c.in_err-pass-2.ensures in
    rw (p.1, p.2) (constants_refused _ _ _ _ _ _ _ _ _ _
    (record { image = c.in_ok-image.ensures; predictor = c.in_ok-predictor.ensures }) c.in_ok-pass.ensures coder_read bad)

pub returns-clause-reads : goal.returns-clause-reads
returns-clause-reads c =
    let coder_read = rw c.end-position.ensures.position at c.in_ok-coder.ensures in
    let last = rw (c.coder_bits.ensures, c.end-position.ensures.position) at c.in_ok-pass-2.ensures in
    rw (c.fork-weights.ensures, c.fork-constants.ensures) (parts_found _ _ _ _ _ _ _ _ _ _ _
    (record { image = c.in_ok-image.ensures; predictor = c.in_ok-predictor.ensures }) c.in_ok-pass.ensures coder_read last)

pub returns-clause-there : goal.returns-clause-there
returns-clause-there c =
    let facts = start_read _ _ _ _ _ c.in_ok-image.ensures c.in_ok-predictor.ensures in
    let last = rw c.coder_bits.ensures at c.in_ok-pass-2.ensures in
    rw (c.fork-weights.ensures, c.fork-constants.ensures) (are_there c.end-position.result _ _ _ _ _ _ _ _ _ facts c.in_ok-pass.ensures last)
