use Rattle.std.proofs.Common.{◌≡◌, ◌+◌, ◌*◌, ◌^◌, ◌≤◌, ◌∙◌, length, take, sym, ap, rules, arith}
use Rattle.std.proofs.lemmas.List.{length-take-le, take-take}
use Rattle.predict_core.proofs.LaneVectors.{replaced_within}
use Rattle.wave_inversion.proofs.finish.advance.Goals as goal

pub invariant_of-band : goal.invariant_of-band
invariant_of-band g c =
    let few = c.requires.pairs in let was = c.band.invariant in
    let long : length c.args.weights.now ≡ 18 = search rules in
    let old : length c.band.inside.weights ≡ 18 = search rules in let new : length c.copy_first.new.own ≡ 18 = search rules in
    let within = rw (← c.band.view_is) at c.requires.weights_in in
    record {
      rows = was.rows;
      columns = was.columns;
      inside = was.inside;
      bounded = replaced_within (2 ^ (c.band.inside.settings.predictor.omega + 2)) (2 * g.row.Q) (take (2 * g.row.Q) c.args.weights.now) c.band.inside.weights
          c.copy_first.new.own c.copy_first.ensures.first (length-take-le (2 * g.row.Q) c.args.weights.now (omega (arith, few, long)))
          (omega (arith, old, new)) c.copy_first.ensures.rest within was.bounded;
    }

pub returns-clause-weights : goal.returns-clause-weights
returns-clause-weights g c =
    let n = c.band.inside.settings.count in
    let long : length c.band.inside.weights ≡ 18 = search rules in
    let same : length c.args.band.now.weights ≡ n =
    ap (λ v. length v.weights) (sym c.band.view_is) ∙ length-take-le n c.band.inside.weights (let few = c.band.inside.settings.few in omega (arith, few, long)) in
    let enough : n ≤ 2 * g.row.Q = (let e = c.requires.enough in omega (arith, same, e)) in
    sym (take-take n (2 * g.row.Q) c.copy_first.new.own enough) ∙ ap (take n) c.copy_first.ensures.first ∙ take-take n (2 * g.row.Q) c.args.weights.now enough
    ∙ ap (λ m. take m c.args.weights.now) (sym same)
