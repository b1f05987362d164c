use Rattle.std.proofs.Common.{length, take, ◌≡◌, SFits, w32, to_z-of_z, rules, ap, ◌∙◌, sym, arith}
use Rattle.std.proofs.lemmas.Int.{ints}
use Rattle.cube_core.specs.Kind.{SampleKind, smin}
use Rattle.sample_prediction.specs.Differences.{difference_vector}
use Rattle.sample_prediction.proofs.Padding.{scaled_there_is, whole_sum, vector_length}
use Rattle.predict_core.proofs.prediction.predict.Goals as goal

pub returns-clause-value : goal.returns-clause-value
returns-clause-value c =
    let s = c.args.settings.now in let r = s.range in let fits : SFits w32 c.scaled_by-scaled.result = search rules in
    let low : smin c.args.rows.now.image.kind ≡ r.smin = ap (λ (k : SampleKind). smin k) c.requires.kind ∙ sym r.smin_is in
    let us = difference_vector s.predictor c.args.rows.now.image s.band c.args.y c.args.x in
    let long : length us ≡ s.count = vector_length s.predictor c.args.rows.now.image s.band c.args.y c.args.x ∙ sym s.count_is in
    let padded = rw (← s.count_is) at c.local_at-local.ensures.differences in
    let e = rw (whole_sum r.smin c.local_at-local.result.sum r.low c.local_at-local.ensures.sum_in) at c.scaled_by-scaled.ensures.value us long padded in
    rw (to_z-of_z fits, ← s.count_is)
    (scaled_there_is s.predictor _ r.kind s.band _ _ _ _ (take s.count c.args.weights.now) c.requires.kind (sym (rw low at c.local_at-local.ensures.sum)) e)

pub scaled_by-scaled-requires-clause-sum_in : goal.scaled_by-scaled-requires-clause-sum_in
scaled_by-scaled-requires-clause-sum_in c =
    let r = c.args.settings.now.range in let b = c.local_at-local.ensures.sum_in in let low = r.low in
    rw (whole_sum r.smin c.local_at-local.result.sum low b) (omega (arith, ints, low.0, b), omega (arith, ints, low.1, b))
