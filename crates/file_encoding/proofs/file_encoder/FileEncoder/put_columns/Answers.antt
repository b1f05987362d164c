use Rattle.std.proofs.Common.{sym, ap, ◌∙◌, length-take, arith}
use Rattle.std.proofs.lemmas.Result.{err_from_is_err_and}
use Rattle.file_encoding.specs.Ends.{FileEncoderState}
use Rattle.file_encoding.proofs.Runs.{codes_part, may_part, place_waits, samples_still}
use Rattle.file_encoding.proofs.file_encoder.FileEncoder.put_columns.Goals as goal

pub unreachable-requires : goal.unreachable-requires
unreachable-requires c = place_waits _ _ _ _ c.requires.may c.loop-first.invariant.coded c.loop-first-test.true (sym c.in_default.is ∙ c.place.ensures)

pub put_column-requires : goal.put_column-requires
put_column-requires c =
    let next = sym c.place.ensures ∙ c.in-Some.is in
    let left = ap (λ (e : FileEncoderState). e.left) c.self.view_is in
    record {
      may = may_part _ _ _ _ _ c.requires.may c.loop-first.invariant.coded (omega arith);
      samples = samples_still _ _ _ _ c.requires.may c.requires.samples c.loop-first.invariant.coded;
      next = next;
      along = λ i lt. (rw left at c.column.ensures.along) i c.in-Some.place (omega (arith, rw length-take at lt)) next;
    }

pub returns-in_err-put_column-clause-some : goal.returns-in_err-put_column-clause-some
returns-in_err-put_column-clause-some c =
    rw (err_from_is_err_and c.from_residual.result c.from_residual.ensures.1).1
    (c.loop-first.first, c.loop-first-test.true, rw c.in_err-put_column.ensures.same c.loop-first.invariant.coded)

pub loop-first-preserved : goal.loop-first-preserved
loop-first-preserved c = record {
  coded = codes_part _ _ _ _ _ _ c.loop-first.invariant.coded c.in_ok-put_column.ensures.coded;
  within = omega (arith, c.min-count.ensures, c.loop-first.invariant.within);
}
