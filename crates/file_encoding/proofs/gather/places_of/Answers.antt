use Rattle.std.proofs.Common.{◌+◌, ◌-◌, ◌∙◌, List, ℕ, get_or, take, drop, length, ap, get_or-drop, get_or-take, arith}
use Rattle.file_encoding.proofs.gather.places_of.Goals as goal

pub returns : goal.returns
returns c i lt =
    let first = c.args.first in let held = c.piece_residuals.result.now in let rest = length held - first in
    get_or-take 8 (take rest (drop first held)) i 0 lt
    ∙ get_or-take rest (drop first held) i 0 (omega (arith, lt, c.requires, c.piece_residuals.ensures.long))
    ∙ get_or-drop first held i 0 ∙ ap (λ (l : List ℕ). get_or l (first + i) 0) c.piece_residuals.ensures.value
    ∙ get_or-take 64 c.args.band.now.piece (first + i) 0 (omega (arith, lt, c.requires))
