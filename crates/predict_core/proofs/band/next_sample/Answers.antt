use Rattle.std.proofs.Common.{◌≡◌, take, SFits, w32, to_z-of_z, rules, arith, ap, sym, ◌∙◌, length}
use Rattle.cube_core.specs.Kind.{SampleKind}
use Rattle.sample_prediction.specs.Predictor.{component_count}
use Rattle.sample_prediction.specs.Differences.{difference_vector}
use Rattle.sample_prediction.proofs.Padding.{vector_length}
use Rattle.predict_core.proofs.Frame.{later_place}
use Rattle.predict_core.proofs.Inverting.{scaled_put, moved_put}
use Rattle.predict_core.proofs.band.next_sample.Goals as goal

pub returns-clause-inverse : goal.returns-clause-inverse
returns-clause-inverse c =
    let s = c.args.settings.now in let fits : SFits w32 c.sample_of-found.result = search rules in
    let scaled_fits : SFits w32 c.predict-prediction.result.scaled = search rules in
    let e = rw (← c.requires.kind) at (simp (to_z-of_z scaled_fits) at c.sample_of-found.ensures.inverse) in
    let same = scaled_put c.args.rows.now.image s.band c.args.y c.args.x c.sample_of-found.result c.requires.place c.prove_is_row.ensures.cube.whole s.predictor
    (rw c.requires.columns s.wide) (later_place c.args.rows.now.image.shape.columns _ _ (omega arith))
    (take (component_count s.predictor s.band) c.args.weights.now) in
    rw (to_z-of_z fits, ← same, ← c.predict-prediction.ensures.value) e

pub returns-clause-weights : goal.returns-clause-weights
returns-clause-weights c =
    let s = c.args.settings.now in let fits : SFits w32 c.sample_of-found.result = search rules in
    let bits : s.range.bits ≡ c.args.rows.now.image.kind.bits = s.range.bits_is ∙ ap (λ (k : SampleKind). k.bits) (sym c.requires.kind) in
    let us = difference_vector s.predictor c.args.rows.now.image s.band c.args.y c.args.x in
    let long : length us ≡ s.count = vector_length s.predictor c.args.rows.now.image s.band c.args.y c.args.x ∙ sym s.count_is in
    let padded = rw (← s.count_is) at c.predict-prediction.ensures.differences in
    let e = rw (s.count_is, bits, ← c.requires.columns) at (simp (to_z-of_z fits) at c.learn.ensures.value us long padded) in rw (to_z-of_z fits)
    (moved_put c.args.rows.now.image s.band c.args.y c.args.x c.sample_of-found.result c.requires.place c.prove_is_row.ensures.cube.whole s.predictor
    (rw c.requires.columns s.wide) c.args.t _ _ _ (later_place c.args.rows.now.image.shape.columns _ _ (omega arith))
    c.requires.t_is c.predict-prediction.ensures.value e)
