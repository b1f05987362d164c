use Rattle.std.proofs.Common.{ℕ, List, ◌+◌, ◌≡◌, refl, arith, w32, ◌∷◌, [], get_or}
use Rattle.lanes.proofs.Ranges.{vector}
use Rattle.lanes.proofs.Steps.{picked, picked_beyond}
use Rattle.lanes.proofs.TurningFour.{four}
use Rattle.band_lanes.proofs.long.vectors.joined_row.Goals as goal

abbrev places : List ℕ
places = 0 ∷ 1 ∷ 2 ∷ 3 ∷ 4 ∷ 5 ∷ 6 ∷ 7 ∷ []

pub returns-clause-first : goal.returns-clause-first
returns-clause-first c k within =
    let a = vector w32 4 c.args.a _ c.well_formed.0 in let at = four (λ j. get_or places j 0 ≡ j) refl refl refl refl k within in
    picked w32 c.args.a c.args.b places 4 k k a.0 a.1 (omega arith) at within

pub returns-clause-second : goal.returns-clause-second
returns-clause-second c k within =
    let a = vector w32 4 c.args.a _ c.well_formed.0 in let b = vector w32 4 c.args.b _ c.well_formed.1.0 in
    let at = four (λ j. get_or places (4 + j) 0 ≡ 4 + j) refl refl refl refl k within in
    picked_beyond w32 c.args.a c.args.b places 4 (4 + k) k a.0 b.0 b.1 (omega arith) at within
