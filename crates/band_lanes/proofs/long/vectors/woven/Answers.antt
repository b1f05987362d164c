use Rattle.std.proofs.Common.{◌+◌, ◌*◌, ◌≡◌, ◌∙◌, refl, ap, arith, w32, List, ℕ, ◌∷◌, [], get_or}
use Rattle.lanes.specs.Lanes.{lane}
use Rattle.lanes.proofs.Ranges.{vector}
use Rattle.lanes.proofs.Steps.{eight, picked, picked_beyond}
use Rattle.band_lanes.proofs.long.vectors.woven.Goals as goal

abbrev places : List ℕ
places = 0 ∷ 8 ∷ 1 ∷ 9 ∷ 2 ∷ 10 ∷ 3 ∷ 11 ∷ 4 ∷ 12 ∷ 5 ∷ 13 ∷ 6 ∷ 14 ∷ 7 ∷ 15 ∷ []

pub returns-clause-even : goal.returns-clause-even
returns-clause-even c k within =
    let a = vector w32 8 c.eight_numbers-even.result _ c.eight_numbers-even.type_inv in
    let at = eight (λ j. get_or places (2 * j) 0 ≡ j) refl refl refl refl refl refl refl refl k within in
    picked w32 c.eight_numbers-even.result c.eight_numbers-odd.result places 8 (2 * k) k a.0 a.1 (omega arith) at within ∙ ap (λ v. lane v k) c.eight_numbers-even.ensures

pub returns-clause-odd : goal.returns-clause-odd
returns-clause-odd c k within =
    let a = vector w32 8 c.eight_numbers-even.result _ c.eight_numbers-even.type_inv in let b = vector w32 8 c.eight_numbers-odd.result _ c.eight_numbers-odd.type_inv in
    let at = eight (λ j. get_or places (2 * j + 1) 0 ≡ 8 + j) refl refl refl refl refl refl refl refl k within in
    picked_beyond w32 c.eight_numbers-even.result c.eight_numbers-odd.result places 8 (2 * k + 1) k a.0 b.0 b.1 (omega arith) at within ∙ ap (λ v. lane v k) c.eight_numbers-odd.ensures
