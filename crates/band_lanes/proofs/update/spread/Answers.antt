use Rattle.std.proofs.Common.{◌≡◌, ◌+◌, ◌*◌, ◌/◌, ◌%◌, ◌<◌, ◌∙◌, ap, arith, w16, inl, inr}
use Rattle.std.proofs.lemmas.Bool.{cases_eq}
use Rattle.lanes.specs.Lanes.{lane}
use Rattle.lanes.proofs.Ranges.{vector}
use Rattle.lanes.proofs.Steps.{kept}
use Rattle.band_lanes.proofs.update.spread.Goals as goal

pub returns : goal.returns
returns c k l =
    let n = vector w16 8 c.args.numbers _ c.well_formed.0 in let r = vector w16 16 c.paired.result _ c.paired.type_inv in
    let half : k / 2 < 8 = omega arith in let same = kept w16 c.args.numbers (k / 2) n.1 in
    kept w16 c.paired.result k r.1 ∙ elim (cases_eq (k % 2) 0) [
      | inl e ↦ (let at : k ≡ 2 * (k / 2) = omega (arith, e) in ap (λ i. lane c.paired.result i) at ∙ c.paired.ensures.even (k / 2) half ∙ same)
      | inr d ↦ (let at : k ≡ 2 * (k / 2) + 1 = omega (arith, d) in ap (λ i. lane c.paired.result i) at ∙ c.paired.ensures.odd (k / 2) half ∙ same)
    ]
