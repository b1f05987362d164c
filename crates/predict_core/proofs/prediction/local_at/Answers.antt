use Rattle.std.proofs.Common.{◌≡◌, ◌*◌, ◌^◌, subst, ap, ◌∙◌, sym, arith, inl, inr}
use Rattle.std.proofs.lemmas.Bool.{cases_Bool}
use Rattle.cube_core.specs.Kind.{SampleKind}
use Rattle.sample_prediction.specs.Bounds.{AllWithin}
use Rattle.sample_prediction.proofs.Directions.{reduced_count, full_count}
use Rattle.predict_core.proofs.Ranges.{padded_within}
use Rattle.predict_core.proofs.prediction.local_at.Goals as goal

pub returns-clause-bound : goal.returns-clause-bound
returns-clause-bound g c =
    let s = c.args.settings.now in
    let bits : s.range.bits ≡ c.args.rows.now.image.kind.bits = s.range.bits_is ∙ ap (λ (k : SampleKind). k.bits) (sym c.requires.kind) in rw bits
    (subst (AllWithin (4 * 2 ^ c.args.rows.now.image.kind.bits)) (sym c.fill_differences.ensures.value)
    (padded_within s.predictor c.args.rows.now.image c.prove_is_row.ensures.cube c.args.y c.args.x c.requires.later (rw c.requires.columns s.wide)
    s.band c.requires.place _))

pub fill_differences-requires-clause-few : goal.fill_differences-requires-clause-few
fill_differences-requires-clause-few g c =
    let s = c.args.settings.now in let near = s.near_is in let count = s.count_is in
    elim (cases_Bool s.predictor.reduced) [
      | inl r ↦ (let n = reduced_count s.predictor s.band r in omega (arith, n, near, count, c.requires.enough))
      | inr r ↦ (let n = full_count s.predictor s.band r in omega (arith, n, near, count, c.requires.enough))
    ]
