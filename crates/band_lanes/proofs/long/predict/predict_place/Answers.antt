use Rattle.std.proofs.Common.{◌≡◌, ℕ, ◌+◌, ◌-◌, ◌*◌, ◌^◌, ◌<◌, ◌≤◌, ℤ, unsigned_abs, ◌∙◌, sym, ap, subst, arith, w32, inl, inr}
use Rattle.std.proofs.lemmas.Bool.{cases_lt}
use Rattle.lanes.specs.Lanes.{lane}
use Rattle.lanes.proofs.Ranges.{vector}
use Rattle.lanes.proofs.Steps.{kept}
use Rattle.sample_prediction.specs.Arithmetic.{floor_div}
use Rattle.sample_prediction.specs.Prediction.{inner_product}
use Rattle.band_lanes.specs.Rows.{weights_of, pairs_of}
use Rattle.band_lanes.proofs.long.predict.predict_place.Given as given
use Rattle.band_lanes.proofs.long.predict.predict_place.Goals as goal
use Rattle.band_lanes.proofs.long.predict.predict_place.Goals.{After-joined_row}

module _ (g : given.Over) (c : After-joined_row g) where
  abbrev part : ℕ → ℤ
  part b = floor_div (inner_product (weights_of g.row.Q b c.args.weights.now) (pairs_of g.row.Q b c.args.components.now)) (2 ^ c.args.omega)

  told : (b : ℕ) → b < 8 → (lane c.joined_row.result b ≡ part b) × (unsigned_abs (lane c.joined_row.result b) ≤ 18 * 2 ^ 20)
  told b l =
      let f = vector w32 4 c.predicted_part-first.result _ c.predicted_part-first.type_inv in
      let s = vector w32 4 c.predicted_part-second.result _ c.predicted_part-second.type_inv in elim (cases_lt b 4) [
        | inl low ↦ (let same = c.joined_row.ensures.first b low ∙ kept w32 c.predicted_part-first.result b f.1 in (
          same ∙ c.predicted_part-first.ensures.value b low ∙ ap part (let e : 4 * 0 + b ≡ b = omega arith in e),
          subst (λ v. unsigned_abs v ≤ 18 * 2 ^ 20) (sym same) (c.predicted_part-first.ensures.bound b low),
        ))
        | inr high ↦ (let m : b - 4 < 4 = omega (arith, l, high) in let back : b ≡ 4 + (b - 4) = omega (arith, high) in
            let same = ap (λ i. lane c.joined_row.result i) back ∙ c.joined_row.ensures.second (b - 4) m ∙ kept w32 c.predicted_part-second.result (b - 4) s.1 in (
              same ∙ c.predicted_part-second.ensures.value (b - 4) m ∙ ap part (let e : 4 * 1 + (b - 4) ≡ b = omega (arith, high) in e),
              subst (λ v. unsigned_abs v ≤ 18 * 2 ^ 20) (sym same) (c.predicted_part-second.ensures.bound (b - 4) m),
            ))
      ]

pub returns-clause-value : goal.returns-clause-value
returns-clause-value g c b l = (told g (goal.at.returns-clause-value g c).After-joined_row b l).0

pub returns-clause-bound : goal.returns-clause-bound
returns-clause-bound g c b l = (told g (goal.at.returns-clause-bound g c).After-joined_row b l).1
