use Rattle.std.proofs.Common.{ap, sym, ◌∙◌}
use Rattle.std.proofs.lemmas.Result.{IfOk-weaker}
use Rattle.file_encoding.specs.ByRows.{RowEncoderState}
use Rattle.file_encoding.proofs.ByRows.{lines_file, planes_file}
use Rattle.file_encoding.proofs.row_encoder.RowEncoder.finish.Goals as goal

pub returns-in-Lines-clause-file : goal.returns-in-Lines-clause-file
returns-in-Lines-clause-file c =
    let is = ap (λ (e : RowEncoderState). e.walk) (sym c.self.view_is) ∙ c.in-Lines.is in
    IfOk-weaker c.finish.result _ _ (λ bytes whole p under last. lines_file p c.args.self c.in-Lines.encoder bytes.items is under last whole) c.finish.ensures.file

pub returns-in-Planes-clause-file : goal.returns-in-Planes-clause-file
returns-in-Planes-clause-file c =
    let is = ap (λ (e : RowEncoderState). e.walk) (sym c.self.view_is) ∙ c.in-Planes.is in
    IfOk-weaker c.finish-in-Planes.result _ _ (λ bytes whole p under last. planes_file p c.args.self c.in-Planes.encoder bytes.items is under last whole)
    c.finish-in-Planes.ensures.file
