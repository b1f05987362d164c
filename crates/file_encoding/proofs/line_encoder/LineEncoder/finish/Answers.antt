use Rattle.std.proofs.Common.{ap, sym, subst, ◌∙◌}
use Rattle.std.proofs.lemmas.Result.{IfOk-weaker}
use Rattle.file_encoding.specs.Ends.{HasCoded}
use Rattle.file_encoding.specs.ByLines.{LineEncoderState}
use Rattle.file_encoding.proofs.LineSteps.{file_is, none_left_now}
use Rattle.file_encoding.proofs.line_encoder.LineEncoder.finish.Goals as goal

pub finish-requires : goal.finish-requires
finish-requires c =
    ap (λ (e : LineEncoderState). e.end.left) c.self.view_is ∙ none_left_now _ _ c.requires.whole.under_way c.requires.whole.whole

pub returns-clause-file : goal.returns-clause-file
returns-clause-file c =
    let end = ap (λ (e : LineEncoderState). e.end) c.self.view_is in
    IfOk-weaker c.finish.result _ _ (λ bytes h p under last.
    file_is p c.args.self under last bytes.items (λ q numbers coded. h q numbers (subst (λ e. HasCoded q e numbers) (sym end) coded))) c.finish.ensures.file
