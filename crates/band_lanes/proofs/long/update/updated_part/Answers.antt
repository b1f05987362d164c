use Rattle.std.proofs.Common.{◌≡◌, ℕ, ◌+◌, ◌*◌, ◌^◌, ◌<◌, ◌≤◌, ◌∙◌, unsigned_abs, [], sym, ap, ap₂, subst, arith, int_le, get_or, w32}
use Rattle.lanes.specs.Lanes.{lane}
use Rattle.lanes.proofs.Ranges.{vector}
use Rattle.lanes.proofs.Steps.{kept}
use Rattle.sample_prediction.specs.Weights.{updated_weight}
use Rattle.band_lanes.proofs.LongRows.{quarter}
use Rattle.band_lanes.proofs.long.update.updated_part.Given as given
use Rattle.band_lanes.proofs.long.update.updated_part.Goals as goal
use Rattle.band_lanes.proofs.long.update.updated_part.Goals.{After-as_chunks-2}

module _ (g : given.Over) (c : After-as_chunks-2 g) where
  weight : (k : ℕ) → k < 4 → lane (get_or c.as_chunks.result.0.now c.args.j []) k ≡ lane c.args.weights.now (4 * c.args.j + k)
  weight k l =
      ap (λ rows. lane (get_or rows c.args.j []) k) c.as_chunks.ensures.front
      ∙ quarter _ c.args.j k c.args.weights.now (let h = c.requires.part in omega (arith, c.told-weights, h)) l

  component : (k : ℕ) → k < 4 → lane (get_or c.as_chunks-2.result.0.now c.args.j []) k ≡ lane c.args.components.now (4 * c.args.j + k)
  component k l =
      ap (λ rows. lane (get_or rows c.args.j []) k) c.as_chunks-2.ensures.front
      ∙ quarter _ c.args.j k c.args.components.now (let h = c.requires.part in omega (arith, c.told-components, h)) l

pub updated-requires-clause-weights_in : goal.updated-requires-clause-weights_in
updated-requires-clause-weights_in g c k l =
    let d = (goal.at.updated-requires-clause-weights_in g c).After-as_chunks-2 in
    subst (λ v. unsigned_abs v ≤ 2 ^ 21) (sym (weight g d k l)) (c.requires.weights_in (4 * c.args.j + k) (let h = c.requires.part in omega (arith, h, l)))

pub updated-requires-clause-small : goal.updated-requires-clause-small
updated-requires-clause-small g c k l =
    let d = (goal.at.updated-requires-clause-small g c).After-as_chunks-2 in
    subst (λ v. unsigned_abs v ≤ 2 ^ (c.args.step.bits + 2)) (sym (component g d k l)) (c.requires.small (4 * c.args.j + k) (let h = c.requires.part in omega (arith, h, l)))

pub returns : goal.returns
returns g c k l =
    let d = (goal.at.returns g c).After-as_chunks-2 in
    let own = vector w32 4 c.part_of.result _ c.part_of.type_inv in let predicted = vector w32 4 c.part_of-2.result _ c.part_of-2.type_inv in
    let r = vector w32 4 c.updated.result _ c.updated.type_inv in
    kept w32 c.updated.result k r.1 ∙ c.updated.ensures k l
    ∙ ap₂ (λ x y. updated_weight c.args.step.omega c.args.step.exponent (int_le x y) (lane (get_or c.as_chunks.result.0.now c.args.j []) k)
    (lane (get_or c.as_chunks-2.result.0.now c.args.j []) k))
    (kept w32 c.part_of.result k own.1 ∙ c.part_of.ensures k l) (kept w32 c.part_of-2.result k predicted.1 ∙ c.part_of-2.ensures k l)
    ∙ ap₂ (updated_weight c.args.step.omega c.args.step.exponent (int_le (lane c.args.own.now (4 * c.args.j + k)) (lane c.args.predicted.now (4 * c.args.j + k))))
    (weight g d k l) (component g d k l)
