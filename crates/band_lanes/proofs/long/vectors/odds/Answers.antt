use Rattle.std.proofs.Common.{◌+◌, ◌*◌, ◌≡◌, refl, arith, w32, ◌∷◌, [], get_or}
use Rattle.lanes.proofs.Ranges.{vector}
use Rattle.lanes.proofs.Steps.{two, picked}
use Rattle.band_lanes.proofs.long.vectors.odds.Goals as goal

pub returns : goal.returns
returns c k within =
    let a = vector w32 4 c.args.a _ c.well_formed.0 in let at = two (λ j. get_or (1 ∷ 3 ∷ []) j 0 ≡ 2 * j + 1) refl refl k within in
    picked w32 c.args.a c.args.a (1 ∷ 3 ∷ []) 4 k (2 * k + 1) a.0 a.1 within at (omega arith)
