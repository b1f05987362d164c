use Rattle.std.proofs.Common.{◌+◌, ◌*◌, ◌≡◌, refl, arith, w16, List, ℕ, ◌∷◌, [], get_or}
use Rattle.lanes.proofs.Ranges.{vector}
use Rattle.lanes.proofs.Steps.{eight, picked, picked_beyond}
use Rattle.lanes.proofs.narrow.paired.Goals as goal

abbrev places : List ℕ
places = 0 ∷ 8 ∷ 1 ∷ 9 ∷ 2 ∷ 10 ∷ 3 ∷ 11 ∷ 4 ∷ 12 ∷ 5 ∷ 13 ∷ 6 ∷ 14 ∷ 7 ∷ 15 ∷ []

pub returns-clause-even : goal.returns-clause-even
returns-clause-even c k within =
    let a = vector w16 8 c.args.first _ c.well_formed.0 in
    let at = eight (λ j. get_or places (2 * j) 0 ≡ j) refl refl refl refl refl refl refl refl k within in
    picked w16 c.args.first c.args.second places 8 (2 * k) k a.0 a.1 (omega arith) at within

pub returns-clause-odd : goal.returns-clause-odd
returns-clause-odd c k within =
    let a = vector w16 8 c.args.first _ c.well_formed.0 in let b = vector w16 8 c.args.second _ c.well_formed.1.0 in
    let at = eight (λ j. get_or places (2 * j + 1) 0 ≡ 8 + j) refl refl refl refl refl refl refl refl k within in
    picked_beyond w16 c.args.first c.args.second places 8 (2 * k + 1) k a.0 b.0 b.1 (omega arith) at within
