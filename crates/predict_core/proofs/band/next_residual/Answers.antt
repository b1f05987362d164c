use Rattle.std.proofs.Common.{length, ◌≡◌, SFits, w32, to_z-of_z, rules, ap, ◌∙◌, sym}
use Rattle.cube_core.specs.Kind.{SampleKind}
use Rattle.sample_prediction.specs.Differences.{difference_vector}
use Rattle.sample_prediction.proofs.Padding.{vector_length}
use Rattle.predict_core.proofs.Following.{next_is}
use Rattle.predict_core.proofs.band.next_residual.Goals as goal

pub returns-clause-weights : goal.returns-clause-weights
returns-clause-weights c =
    let s = c.args.settings.now in let fits : SFits w32 c.sample-sample.result = search rules in
    let bits : s.range.bits ≡ c.args.rows.now.image.kind.bits = s.range.bits_is ∙ ap (λ (k : SampleKind). k.bits) (sym c.requires.kind) in
    let us = difference_vector s.predictor c.args.rows.now.image s.band c.args.y c.args.x in
    let long : length us ≡ s.count = vector_length s.predictor c.args.rows.now.image s.band c.args.y c.args.x ∙ sym s.count_is in
    let padded = rw (← s.count_is) at c.predict-prediction.ensures.differences in
    let e = rw (s.count_is, bits, ← c.requires.columns) at (simp (to_z-of_z fits) at c.learn.ensures.value us long padded) in
    next_is s.predictor c.args.rows.now.image s.band c.args.t c.args.y c.args.x _ _ c.predict-prediction.result.scaled _
    c.requires.t_is c.requires.place.column c.predict-prediction.ensures.value (rw c.requires.row at c.sample-sample.ensures.value) e

pub predict-prediction-requires-clause-later : goal.predict-prediction-requires-clause-later
predict-prediction-requires-clause-later c = search rules

pub learn-requires-clause-t_in : goal.learn-requires-clause-t_in
learn-requires-clause-t_in c = search rules

pub residual_of-requires-clause-scaled : goal.residual_of-requires-clause-scaled
residual_of-requires-clause-scaled c = search rules

pub returns-clause-value : goal.returns-clause-value
returns-clause-value c =
    let fits : SFits w32 c.sample-sample.result = search rules in let scaled_fits : SFits w32 c.predict-prediction.result.scaled = search rules in
    rw (← c.predict-prediction.ensures.value, ← (rw c.requires.row at c.sample-sample.ensures.value))
    (rw (← c.requires.kind) at (simp (to_z-of_z scaled_fits, to_z-of_z fits) at c.residual_of.ensures.value))
