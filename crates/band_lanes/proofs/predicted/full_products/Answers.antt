use Rattle.std.proofs.Common.{ℕ, ◌^◌, ◌<◌, ◌∙◌, sym, ap, subst, SFits, w16, w32, unsigned_abs}
use Rattle.lanes.specs.Lanes.{lane}
use Rattle.lanes.proofs.Ranges.{vector}
use Rattle.lanes.proofs.Steps.{kept}
use Rattle.band_lanes.proofs.Sums.{same_pair, full_pair_in}
use Rattle.band_lanes.proofs.predicted.full_products.Goals as goal

pub returns : goal.returns
returns c b l =
    let w = vector w16 16 c.row_of-factors.result _ c.row_of-factors.type_inv in let u = vector w16 16 c.row_of-numbers.result _ c.row_of-numbers.type_inv in
    let r = vector w32 8 c.pair_sums.result _ c.pair_sums.type_inv in
    let weights_fit : (k : ℕ) → SFits w16 (lane c.args.weights.now k) = subst (λ xs. (k : ℕ) → SFits w16 (lane xs k)) c.row_of-factors.ensures w.1 in
    let bound = full_pair_in c.args.weights.now c.args.components.now b weights_fit l c.requires in
    let same = same_pair _ _ c.args.weights.now c.args.components.now b
    (λ i. kept w16 c.row_of-factors.result i w.1 ∙ ap (λ xs. lane xs i) c.row_of-factors.ensures)
    (λ i. kept w16 c.row_of-numbers.result i u.1 ∙ ap (λ xs. lane xs i) c.row_of-numbers.ensures) in
    kept w32 c.pair_sums.result b r.1 ∙ c.pair_sums.ensures b l (subst (λ v. unsigned_abs v < 2 ^ 31) (sym same) bound) ∙ same
