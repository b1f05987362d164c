use Rattle.std.proofs.Common.{ap, sym, subst, ◌∙◌}
use Rattle.std.proofs.lemmas.Result.{IfOk-weaker}
use Rattle.file_encoding.specs.Ends.{HasCoded}
use Rattle.file_encoding.specs.ByPlanes.{PlaneEncoderState}
use Rattle.file_encoding.proofs.PlaneRows.{file_of_planes, no_place_left}
use Rattle.file_encoding.proofs.plane_encoder.PlaneEncoder.finish.Goals as goal

pub finish-requires : goal.finish-requires
finish-requires c =
    ap (λ (e : PlaneEncoderState). e.end.left) c.self.view_is ∙ no_place_left _ _ c.requires.whole.under_way c.requires.whole.whole

pub returns-clause-file : goal.returns-clause-file
returns-clause-file c =
    let end = ap (λ (e : PlaneEncoderState). e.end) c.self.view_is in
    IfOk-weaker c.finish.result _ _ (λ bytes h p under last.
    file_of_planes p c.args.self under last bytes.items (λ q numbers coded. h q numbers (subst (λ e. HasCoded q e numbers) (sym end) coded))) c.finish.ensures.file
