use Rattle.std.proofs.Common.{◌≡◌, ◌+◌, length, take, refl, sym, ap, ◌∙◌, arith}
use Rattle.std.proofs.lemmas.List.{length-take-le}
use Rattle.group_prediction.proofs.GroupRuns.{piece_held}
use Rattle.group_prediction.proofs.finish.finish_band.Goals as goal

pub returns : goal.returns
returns g c = record {
  held = λ begun same followed.
      let s = c.band.inside.settings in let is = c.band.view_is in let few = s.few in let told = c.band.told.0 in
      let long : length c.args.band.now.weights ≡ s.count = sym (ap (λ v. length v.weights) is) ∙ length-take-le s.count c.band.inside.weights (omega (arith, few, told)) in
      let predicted = c.finish_piece-piece.ensures.predicted begun (ap (λ n. take n begun) (sym long) ∙ same ∙ sym (ap (λ v. v.weights) is))
      (followed s (record {
        predictor = ap (λ v. v.predictor) is;
        band = ap (λ v. v.band) is;
        kind = ap (λ v. v.kind) is;
        columns = c.band.invariant.columns ∙ ap (λ v. v.shape.columns) is ∙ sym (ap (λ v. v.columns) c.requires.next.shape);
      })) in
      piece_held s c.args.run.now.image c.args.run.now.y c.args.run.now.x c.args.run.now.count c.band.inside.weights c.finish_piece-piece.new.weights c.args.band.now _ c.requires.next.next
      (ap (λ v. v.predictor) is) (ap (λ v. v.band) is) (ap (λ v. v.weights) is) predicted (record {
        predictor = ap (λ v. v.predictor) is;
        shape = ap (λ v. v.shape) is;
        kind = ap (λ v. v.kind) is;
        band = ap (λ v. v.band) is;
        t = ap (λ n. c.band.inside.next + n) c.count.ensures ∙ ap (λ v. v.t + c.args.run.now.count) is;
      }) refl;
}
