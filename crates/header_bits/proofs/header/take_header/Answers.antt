use Rattle.std.proofs.Common.{◌≡◌, ◌∙◌, Ok, Err, inl, inr, refl}
use Rattle.std.proofs.lemmas.Result.{err_from_is_err_and}
use Rattle.header_bits.specs.Header.{HeaderContents, header_contents, params_of, parts_at, header_at}
use Rattle.header_bits.proofs.Headers.{header_refused, header_read, refused_spells_none}
use Rattle.header_bits.proofs.HeaderTexts.{table_kept, left_within, left_after, read_lawful}
use Rattle.header_bits.proofs.header.take_header.Goals as goal
use Rattle.header_bits.proofs.header.take_header.Goals.{In_err-parts, In_ok-parts, In_ok-params}

-- ---- a refused part

refused : (c : In_err-parts) → header_at c.args.reader.now.left ≡ Err c.in_err-parts.field-0.0
refused c = header_refused _ _ (rw c.fork-ahead.ensures at c.in_err-parts.ensures.reads)

pub returns-in_err-parts-clause-takes : goal.returns-in_err-parts-clause-takes
returns-in_err-parts-clause-takes c =
    let p = err_from_is_err_and c.from_residual.result c.from_residual.ensures.1 in
    rw (p.1, p.2) (inl (refused (goal.at.returns-in_err-parts-clause-takes c).In_err-parts))

pub returns-in_err-parts-clause-none : goal.returns-in_err-parts-clause-none
returns-in_err-parts-clause-none c =
    let p = err_from_is_err_and c.from_residual.result c.from_residual.ensures.1 in
    rw (p.1, p.2) (inr (refused_spells_none _ _ (refused (goal.at.returns-in_err-parts-clause-none c).In_err-parts)))

-- ---- all parts

module _ (c : In_ok-parts) where
  abbrev parts_say : HeaderContents
  parts_say =
      let x = c.in_ok-parts.parts in
      header_contents x.image x.predictor x.weights.left x.coder x.constants.left

  parts : parts_at c.args.reader.now.left ≡ Ok (parts_say, c.look_through.new.reader.left)
  parts = rw c.fork-ahead.ensures at c.in_ok-parts.ensures.reads

pub returns-in_err-params-clause-takes : goal.returns-in_err-params-clause-takes
returns-in_err-params-clause-takes c =
    let p = err_from_is_err_and c.from_residual-in_err-params.result c.from_residual-in_err-params.ensures.1 in
    let here = (goal.at.returns-in_err-params-clause-takes c).In_ok-parts in
    let x = c.in_ok-parts.parts in
    let want = c.in_err-params.ensures.refused in
    let kept = table_kept x.image x.predictor x.weights.left x.coder x.constants.left ∙ want.1 in
    rw (p.1, p.2) (inr (want.0, ((params_of (parts_say here), c.look_through.new.reader.left), header_read _ _ _ _ (parts here) refl, kept)))

header : (c : In_ok-params) → header_at c.args.reader.now.left ≡ Ok (c.in_ok-params.params, c.look_through.new.reader.left)
header c = header_read _ _ _ _ (parts (goal.at.In_ok-params c).In_ok-parts) c.in_ok-params.ensures.params

pub overflow_sub-left : goal.overflow_sub-left
overflow_sub-left c = rw (c.left.ensures, c.left-2.ensures) (left_within _ _ _ (header (goal.at.overflow_sub-left c).In_ok-params))

pub returns-clause-takes : goal.returns-clause-takes
returns-clause-takes c =
    rw c.skip.ensures.left (left_after _ _ _ _ (header (goal.at.returns-clause-takes c).In_ok-params) (rw (c.left.ensures, c.left-2.ensures) refl))

pub returns-clause-lawful : goal.returns-clause-lawful
returns-clause-lawful c = read_lawful _ _ _ (header (goal.at.returns-clause-lawful c).In_ok-params)
