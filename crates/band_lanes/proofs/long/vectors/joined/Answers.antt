use Rattle.std.proofs.Common.{◌+◌, ◌≡◌, refl, arith, w64, ◌∷◌, [], get_or}
use Rattle.lanes.proofs.Ranges.{vector}
use Rattle.lanes.proofs.Steps.{two, picked_beyond}
use Rattle.band_lanes.proofs.long.vectors.joined.Goals as goal

pub returns-clause-second : goal.returns-clause-second
returns-clause-second c k within =
    let a = vector w64 2 c.args.a _ c.well_formed.0 in let b = vector w64 2 c.args.b _ c.well_formed.1.0 in
    let at = two (λ j. get_or (0 ∷ 1 ∷ 2 ∷ 3 ∷ []) (2 + j) 0 ≡ 2 + j) refl refl k within in
    picked_beyond w64 c.args.a c.args.b (0 ∷ 1 ∷ 2 ∷ 3 ∷ []) 2 (2 + k) k a.0 b.0 b.1 (omega arith) at within
