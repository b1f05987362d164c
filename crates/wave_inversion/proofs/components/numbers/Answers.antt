use Rattle.std.proofs.Common.{ℕ, ◌∙◌, subst, ap, map, to_z, of_z, SFits, w16, arith}
use Rattle.std.proofs.lemmas.List.{take_all}
use Rattle.lanes.specs.Lanes.{lane}
use Rattle.lanes.proofs.Ranges.{vector}
use Rattle.lanes.proofs.Steps.{same}
use Rattle.wave_inversion.proofs.components.numbers.Goals as goal

pub returns : goal.returns
returns c =
    let r = vector w16 8 c.whole-same.result _ c.whole-same.type_inv in
    let fits : (k : ℕ) → SFits w16 (lane c.args.row.now k) = subst (λ xs. (k : ℕ) → SFits w16 (lane xs k)) c.whole-same.ensures r.1 in
    ap (λ xs. map (to_z w16) (map (of_z w16) xs)) (take_all 8 c.args.row.now (omega (arith, c.told-row))) ∙ same w16 c.args.row.now fits
