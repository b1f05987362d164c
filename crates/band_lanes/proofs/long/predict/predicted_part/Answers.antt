use Rattle.std.proofs.Common.{◌≡◌, ℕ, ℤ, ◌+◌, ◌-◌, ◌*◌, ◌^◌, ◌<◌, ◌≤◌, unsigned_abs, ◌∙◌, sym, ap, subst, arith, map, to_z, of_z, w32, w64, inl, inr}
use Rattle.std.proofs.lemmas.Bool.{cases_lt}
use Rattle.lanes.specs.Lanes.{lane, halved}
use Rattle.lanes.proofs.Ranges.{vector}
use Rattle.lanes.proofs.Steps.{kept}
use Rattle.sample_prediction.specs.Prediction.{inner_product}
use Rattle.band_lanes.specs.Rows.{weights_of, pairs_of}
use Rattle.band_lanes.proofs.Floors.{halved_is}
use Rattle.band_lanes.proofs.Fours.{quotient_in}
use Rattle.band_lanes.proofs.LongRows.{rows_within, products_in}
use Rattle.band_lanes.proofs.long.predict.predicted_part.Given as given
use Rattle.band_lanes.proofs.long.predict.predicted_part.Goals as goal
use Rattle.band_lanes.proofs.long.predict.predicted_part.Goals.{After-joined}

module _ (g : given.Over) (c : After-joined g) where
  abbrev product : ℕ → ℤ
  product b = inner_product (weights_of g.row.Q b c.args.weights.now) (pairs_of g.row.Q b c.args.components.now)

  sum_is : (k : ℕ) → k < 4 → lane (map (to_z w64) (map (of_z w64) c.joined.result)) k ≡ product (4 * c.args.h + k)
  sum_is k l =
      let r = vector w64 4 c.joined.result _ c.joined.type_inv in
      let f = vector w64 2 c.sums_of-first.result _ c.sums_of-first.type_inv in let s = vector w64 2 c.sums_of-second.result _ c.sums_of-second.type_inv in
      kept w64 c.joined.result k r.1 ∙ elim (cases_lt k 2) [
        | inl low ↦ (let at : 2 * (2 * c.args.h) + k ≡ 4 * c.args.h + k = omega arith in
            c.joined.ensures.first k low ∙ kept w64 c.sums_of-first.result k f.1 ∙ c.sums_of-first.ensures k low ∙ ap product at)
        | inr high ↦ (let m : k - 2 < 2 = omega (arith, l, high) in let back : k ≡ 2 + (k - 2) = omega (arith, high) in
            let at : 2 * (2 * c.args.h + 1) + (k - 2) ≡ 4 * c.args.h + k = omega (arith, high) in
            ap (λ i. lane c.joined.result i) back ∙ c.joined.ensures.second (k - 2) m ∙ kept w64 c.sums_of-second.result (k - 2) s.1
            ∙ c.sums_of-second.ensures (k - 2) m ∙ ap product at)
      ]

  small : (k : ℕ) → k < 4 → unsigned_abs (halved (product (4 * c.args.h + k)) c.args.omega) ≤ 18 * 2 ^ 20
  small k l =
      let few = c.requires.few in let long_w = c.told-weights in let long_u = c.told-components in
      quotient_in c.args.omega (product (4 * c.args.h + k))
      (products_in (2 ^ (c.args.omega + 2)) g.row.Q g.row.Q (4 * c.args.h + k) c.args.weights.now c.args.components.now (omega arith) few
      (omega (arith, few, long_w)) (omega (arith, few, long_u)) (let h = c.requires.half in omega (arith, h, l))
      (rows_within (2 ^ (c.args.omega + 2)) g.row.Q c.args.weights.now (omega (arith, few, long_w)) c.requires.weights_in) c.requires.components_in)

pub quotients-requires-clause-fit : goal.quotients-requires-clause-fit
quotients-requires-clause-fit g c k l =
    let d = (goal.at.quotients-requires-clause-fit g c).After-joined in let s = small g d k l in
    subst (λ v. unsigned_abs (halved v c.args.omega) < 2 ^ 31) (sym (sum_is g d k l)) (omega (arith, s))

pub returns-clause-value : goal.returns-clause-value
returns-clause-value g c k l =
    let d = (goal.at.returns-clause-value g c).After-joined in let r = vector w32 4 c.quotients.result _ c.quotients.type_inv in
    kept w32 c.quotients.result k r.1 ∙ c.quotients.ensures k l ∙ ap (λ v. halved v c.args.omega) (sum_is g d k l)
    ∙ halved_is (product g d (4 * c.args.h + k)) c.args.omega

pub returns-clause-bound : goal.returns-clause-bound
returns-clause-bound g c k l =
    let d = (goal.at.returns-clause-bound g c).After-joined in let r = vector w32 4 c.quotients.result _ c.quotients.type_inv in
    subst (λ v. unsigned_abs v ≤ 18 * 2 ^ 20)
    (sym (kept w32 c.quotients.result k r.1 ∙ c.quotients.ensures k l ∙ ap (λ v. halved v c.args.omega) (sum_is g d k l))) (small g d k l)
