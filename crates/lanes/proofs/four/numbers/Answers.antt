use Rattle.std.proofs.Common.{ℕ, ◌∙◌, subst, ap, map, to_z, of_z, SFits, w32, arith}
use Rattle.std.proofs.lemmas.List.{take_all}
use Rattle.lanes.specs.Lanes.{lane}
use Rattle.lanes.proofs.Ranges.{vector}
use Rattle.lanes.proofs.Steps.{same}
use Rattle.lanes.proofs.four.numbers.Goals as goal

pub returns : goal.returns
returns c =
    let r = vector w32 4 c.whole-same.result _ c.whole-same.type_inv in
    let fits : (k : ℕ) → SFits w32 (lane c.args.row.now k) = subst (λ xs. (k : ℕ) → SFits w32 (lane xs k)) c.whole-same.ensures r.1 in
    ap (λ xs. map (to_z w32) (map (of_z w32) xs)) (take_all 4 c.args.row.now (omega (arith, c.told-row))) ∙ same w32 c.args.row.now fits
