use Rattle.std.proofs.Common.{ℕ, List, ◌+◌, ◌/◌, ◌≡◌, ◌∙◌, refl, ap, arith, w32, ◌∷◌, [], get_or}
use Rattle.lanes.proofs.Ranges.{vector}
use Rattle.lanes.proofs.Steps.{eight, picked}
use Rattle.lanes.specs.Lanes.{lane}
use Rattle.band_lanes.proofs.LongRows.{by_halves}
use Rattle.band_lanes.proofs.long.vectors.spread.Goals as goal

abbrev places : List ℕ
places = 0 ∷ 0 ∷ 1 ∷ 1 ∷ 2 ∷ 2 ∷ 3 ∷ 3 ∷ 4 ∷ 4 ∷ 5 ∷ 5 ∷ 6 ∷ 6 ∷ 7 ∷ 7 ∷ []

pub returns : goal.returns
returns c k within =
    let r = vector w32 8 c.eight_numbers.result _ c.eight_numbers.type_inv in
    let at : get_or places k 0 ≡ k / 2 = by_halves (λ j. get_or places j 0 ≡ j / 2)
    (eight (λ j. get_or places j 0 ≡ j / 2) refl refl refl refl refl refl refl refl)
    (eight (λ j. get_or places (8 + j) 0 ≡ (8 + j) / 2) refl refl refl refl refl refl refl refl) k within in
    picked w32 c.eight_numbers.result c.eight_numbers.result places 8 k (k / 2) r.0 r.1 within at (omega arith) ∙ ap (λ l. lane l (k / 2)) c.eight_numbers.ensures
