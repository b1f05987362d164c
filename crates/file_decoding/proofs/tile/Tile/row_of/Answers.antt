use Rattle.std.proofs.Common.{◌≡◌, ◌+◌, ◌-◌, ◌*◌, ◌∙◌, List, ℕ, get_or, take, drop, ap, get_or-drop, get_or-take, arith}
use Rattle.file_decoding.proofs.tile.Tile.row_of.Goals as goal

pub returns : goal.returns
returns c b lt =
    let numbers = c.args.numbers.now in let at = c.args.column * c.args.self.now.bands + c.args.first in let n = at + 8 - at in
    let there : at + b ≡ c.args.column * c.args.self.now.bands + (c.args.first + b) = omega arith in
    get_or-take 8 (take n (drop at numbers)) b 0 lt ∙ get_or-take n (drop at numbers) b 0 (omega (arith, lt)) ∙ get_or-drop at numbers b 0
    ∙ ap (λ i. get_or numbers i 0) there
