use Rattle.std.proofs.Common.{◌∙◌, ℤ, pos, [], List, replicate, get_or, ap}
use Rattle.std.proofs.lemmas.List.{get_or-replicate}
use Rattle.wave_inversion.proofs.centrals.clear_rows.Goals as goal

pub returns : goal.returns
returns c i b l m =
    ap (λ (row : List ℤ). get_or row b (pos 0)) (get_or-replicate 64 i (replicate 8 (pos 0)) [] l) ∙ get_or-replicate 8 b (pos 0) (pos 0) m
