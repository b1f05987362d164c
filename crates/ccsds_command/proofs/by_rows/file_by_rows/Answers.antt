use Rattle.std.proofs.Common.{◌≡◌, refl, sym, ap, ◌∙◌, arith, inl}
use Rattle.std.proofs.lemmas.Result.{IfOk-weaker, err_from_is_err_and}
use Rattle.cube_core.specs.Shape.{Sizes}
use Rattle.file_encoding.specs.ByRows.{rows_of_order}
use Rattle.file_encoding.proofs.FoundRows.{same_rows}
use Rattle.ccsds_command.specs.Compress.{HasFile}
use Rattle.ccsds_command.proofs.Rows.{come_refused, come_within, file_of_all}
use Rattle.ccsds_command.proofs.by_rows.file_by_rows.Goals as goal
use Rattle.ccsds_command.proofs.by_rows.file_by_rows.Goals.{After-row_count-rows}
use Rattle.ccsds_command.proofs.by_rows.file_by_rows.Given.{Over}

-- all rows have come
module _ (g : Over) (c : After-row_count-rows g) where
  all_come : (rows_of_order c.args.settings.now.params.order c.args.settings.now.params.shape).rows ≡ c.row_count-rows.result
  all_come =
      sym (ap (λ (t : Sizes). t.rows) (same_rows c.args.settings.now.layout.order c.args.settings.now.params.order c.args.settings.now.params.shape c.requires.together))
      ∙ sym c.row_count-rows.ensures.value

pub returns-in_err-read_rest-clause-refused : goal.returns-in_err-read_rest-clause-refused
returns-in_err-read_rest-clause-refused g c =
    let (under, last, come) = c.in_ok-encoder-2.ensures.coded in
    let p = err_from_is_err_and c.from_residual-in_err-read_rest.result c.from_residual-in_err-read_rest.ensures.1 in
    let d = (goal.at.returns-in_err-read_rest-clause-refused g c).After-row_count-rows in
    rw (p.1, p.2) (come_refused c.args.settings.now c.in_ok-encoder-2.encoder _ _ _ come c.args.settings.now.params.kind c.row_count-rows.result _ _ _ _ refl
    (last ∙ all_come g d) (omega (arith, c.row_count-rows.ensures.value)) c.in_ok-encoder-2.ensures.worked (inl c.in_err-read_rest.ensures.refused))

pub returns-in_err-read_rest-clause-bounded : goal.returns-in_err-read_rest-clause-bounded
returns-in_err-read_rest-clause-bounded g c =
    let (under, last, come) = c.in_ok-encoder-2.ensures.coded in
    let d = (goal.at.returns-in_err-read_rest-clause-bounded g c).After-row_count-rows in
    come_within c.args.settings.now c.in_ok-encoder-2.encoder (g.S.Source.left c.args.source.now) (g.S.Source.left c.code_rows.new.source)
    (g.S.Source.left c.read_rest.new.source) come c.row_count-rows.result (last ∙ all_come g d) (omega (arith, c.row_count-rows.ensures.value))
    c.in_err-read_rest.ensures.bounded

pub returns-clause-file : goal.returns-clause-file
returns-clause-file g c =
    let (under, last, come) = c.in_ok-encoder-2.ensures.coded in
    IfOk-weaker c.finish.result _ (λ file. HasFile c.args.settings.now (g.S.Source.left c.args.source.now) file.items)
    (λ file whole. file_of_all c.args.settings.now c.in_ok-encoder-2.encoder (g.S.Source.left c.args.source.now) (g.S.Source.left c.code_rows.new.source)
    (g.S.Source.left c.read_rest.new.source) file.items c.requires.layout c.requires.together under last come
    (rw c.row_count-rows.ensures.value at c.in_ok-read_rest.ensures.given) whole)
    c.finish.ensures.file

pub returns-clause-bounded : goal.returns-clause-bounded
returns-clause-bounded g c =
    let (under, last, come) = c.in_ok-encoder-2.ensures.coded in
    let d = (goal.at.returns-clause-bounded g c).After-row_count-rows in
    come_within c.args.settings.now c.in_ok-encoder-2.encoder (g.S.Source.left c.args.source.now) (g.S.Source.left c.code_rows.new.source)
    (g.S.Source.left c.read_rest.new.source) come c.row_count-rows.result (last ∙ all_come g d) (omega (arith, c.row_count-rows.ensures.value))
    c.read_rest.ensures.bounded
