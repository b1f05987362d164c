use Rattle.std.proofs.Common.{◌≡◌, ℕ, ◌^◌, ◌<◌, ◌∙◌, sym, ap, subst, arith, map, to_z, of_z, SFits, w16, w32, unsigned_abs}
use Rattle.lanes.specs.Lanes.{lane, pair_sum}
use Rattle.lanes.proofs.Ranges.{vector}
use Rattle.lanes.proofs.Steps.{kept}
use Rattle.band_lanes.proofs.Sums.{same_pair, pair_in}
use Rattle.band_lanes.proofs.predicted.products.Goals as goal
use Rattle.band_lanes.proofs.predicted.products.Goals.{After-pair_sums}

module _ (c : After-pair_sums) where
  value : (b : ℕ) → b < 8 → (lane (map (to_z w32) (map (of_z w32) c.pair_sums.result)) b ≡ pair_sum c.args.weights.now c.args.components.now b)
      × (unsigned_abs (pair_sum c.args.weights.now c.args.components.now b) < 2 ^ 30)
  value b l =
      let w = vector w16 16 c.row_of-weights.result _ c.row_of-weights.type_inv in let u = vector w16 16 c.row_of-components.result _ c.row_of-components.type_inv in
      let r = vector w32 8 c.pair_sums.result _ c.pair_sums.type_inv in
      let weights_fit : (k : ℕ) → SFits w16 (lane c.args.weights.now k) = subst (λ xs. (k : ℕ) → SFits w16 (lane xs k)) c.row_of-weights.ensures w.1 in
      let components_fit : (k : ℕ) → SFits w16 (lane c.args.components.now k) =
      subst (λ xs. (k : ℕ) → SFits w16 (lane xs k)) c.row_of-components.ensures u.1 in
      let bound = pair_in c.args.weights.now c.args.components.now b weights_fit l c.requires in
      let same = same_pair _ _ c.args.weights.now c.args.components.now b
      (λ i. kept w16 c.row_of-weights.result i w.1 ∙ ap (λ xs. lane xs i) c.row_of-weights.ensures)
      (λ i. kept w16 c.row_of-components.result i u.1 ∙ ap (λ xs. lane xs i) c.row_of-components.ensures) in
      (kept w32 c.pair_sums.result b r.1 ∙ c.pair_sums.ensures b l (subst (λ v. unsigned_abs v < 2 ^ 31) (sym same) (omega (arith, bound))) ∙ same, bound)

pub returns-clause-value : goal.returns-clause-value
returns-clause-value c b l = (value c b l).0

pub returns-clause-bound : goal.returns-clause-bound
returns-clause-bound c b l = rw (value c b l).0 (value c b l).1
