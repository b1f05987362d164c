use Rattle.std.proofs.Common.{◌≡◌, ◌<◌, Some, sym, ap, ◌∙◌, length-take, arith}
use Rattle.std.specs.List.{slice_get}
use Rattle.std.proofs.lemmas.Result.{err_from_is_err_and}
use Rattle.file_encoding.specs.Ends.{FileEncoderState}
use Rattle.file_encoding.proofs.Endings.{place_left}
use Rattle.file_encoding.proofs.Runs.{codes_part, may_part, place_waits, samples_still}
use Rattle.file_encoding.proofs.file_encoder.FileEncoder.put_rows.Goals as goal
use Rattle.file_encoding.proofs.file_encoder.FileEncoder.put_rows.Goals.{After-from}

pub unreachable-requires : goal.unreachable-requires
unreachable-requires c = place_waits _ _ _ _ c.requires.may c.loop-first.invariant.coded c.loop-first-test.true (sym c.in_default.is ∙ c.place.ensures)

module _ (c : After-from) where
  next : slice_get c.loop-first.self.left 0 ≡ Some c.in-Some.place
  next = sym c.place.ensures ∙ c.in-Some.is

  inside : c.in-Some.place.x < c.self.inside.columns
  inside =
      let coded = c.loop-first.invariant.coded c.requires.may.params c.requires.may.numbers c.requires.may.coded in
      omega (arith, (place_left _ _ _ 0 _ coded next).column, coded.columns, ap (λ (e : FileEncoderState). e.columns) c.self.view_is)

pub overflow_sub-row : goal.overflow_sub-row
overflow_sub-row c = omega (arith, inside (goal.at.overflow_sub-row c).After-from, c.from.ensures)

pub put_run-requires : goal.put_run-requires
put_run-requires c =
    let d = (goal.at.put_run-requires c).After-from in
    record {
      may = may_part _ _ _ _ _ c.requires.may c.loop-first.invariant.coded (omega arith);
      samples = samples_still _ _ _ _ c.requires.may c.requires.samples c.loop-first.invariant.coded;
      rows = c.loop-first.invariant.rows;
      next = next d;
      row = rw length-take (omega (arith, inside d, ap (λ (e : FileEncoderState). e.columns) c.self.view_is));
    }

pub loop-first-smaller : goal.loop-first-smaller
loop-first-smaller c = omega (arith, inside (goal.at.loop-first-smaller c).After-from)

pub returns-in_err-put_run-clause-some : goal.returns-in_err-put_run-clause-some
returns-in_err-put_run-clause-some c =
    rw (err_from_is_err_and c.from_residual.result c.from_residual.ensures.1).1
    (c.loop-first.first, c.loop-first-test.true, rw c.in_err-put_run.ensures.same c.loop-first.invariant.coded)

pub loop-first-preserved : goal.loop-first-preserved
loop-first-preserved c = record {
  coded = codes_part _ _ _ _ _ _ c.loop-first.invariant.coded c.in_ok-put_run.ensures.coded;
  rows = c.in_ok-put_run.ensures.rows;
  within = omega (arith, c.min-count.ensures, c.loop-first.invariant.within);
}
