use Rattle.std.proofs.Common.{◌≡◌, arith, ap, ◌∙◌, sym}
use Rattle.std.proofs.lemmas.Int.{ints}
use Rattle.cube_core.specs.Kind.{SampleKind, smin, smid, smax}
use Rattle.sample_prediction.proofs.Padding.{first_from_middle, first_from_below}
use Rattle.predict_core.proofs.prediction.first_scaled.Goals as goal

pub returns-then-band-eq0-clause-value : goal.returns-then-band-eq0-clause-value
returns-then-band-eq0-clause-value c =
    let mid = c.args.settings.now.range.mid in
    let is : smid c.args.rows.now.image.kind ≡ c.args.settings.now.range.smid =
    ap (λ (k : SampleKind). smid k) c.requires.kind ∙ sym c.args.settings.now.range.smid_is in
    rw (first_from_middle c.args.settings.now.predictor c.args.rows.now.image c.args.settings.now.band c.if-band-eq0.either, is) (omega (arith, ints, mid.0, mid.1))

pub returns-then-band-eq0-clause-scaled : goal.returns-then-band-eq0-clause-scaled
returns-then-band-eq0-clause-scaled c =
    let r = c.args.settings.now.range in let low : smin c.args.rows.now.image.kind ≡ r.smin = ap (λ (k : SampleKind). smin k) c.requires.kind ∙ sym r.smin_is in
    let high : smax c.args.rows.now.image.kind ≡ r.smax = ap (λ (k : SampleKind). smax k) c.requires.kind ∙ sym r.smax_is in
    let a = r.low in let b = r.mid in let i = r.inside in
    rw (low, high) (omega (arith, ints, a.0, a.1, b.0, b.1, i), omega (arith, ints, a.0, a.1, b.0, b.1, i))

pub returns-else-band-eq0-clause-value : goal.returns-else-band-eq0-clause-value
returns-else-band-eq0-clause-value c =
    let e = first_from_below c.args.settings.now.predictor c.args.rows.now.image c.args.settings.now.band c.if-band-eq0.false.0 c.if-band-eq0.false.1 in
    rw (e, ← (rw c.requires.first at c.sample.ensures.value)) (omega (arith, ints))
