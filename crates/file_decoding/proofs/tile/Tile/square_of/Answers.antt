use Rattle.std.proofs.Common.{◌≡◌, ◌+◌, ◌*◌, ◌∙◌, ◌∷◌, [], ℕ, ap, arith}
use Rattle.std.specs.List.{slice_index}
use Rattle.lanes.proofs.Steps.{eight}
use Rattle.lanes.specs.Squares.{at}
use Rattle.file_decoding.proofs.tile.Tile.square_of.Goals as goal

pub returns : goal.returns
returns c i b in-i in-b =
    let first : c.args.column ≡ c.args.column + 0 = omega arith in
    let number = (λ (i : ℕ). slice_index c.args.numbers.now (i * c.args.self.now.bands + (c.args.first + b))) in
    eight (λ i. at (c.row_of.result ∷ c.row_of-2.result ∷ c.row_of-3.result ∷ c.row_of-4.result ∷ c.row_of-5.result ∷ c.row_of-6.result ∷ c.row_of-7.result ∷ c.row_of-8.result ∷ []) i b
    ≡ number (c.args.column + i))
    (c.row_of.ensures b in-b ∙ ap number first) (c.row_of-2.ensures b in-b) (c.row_of-3.ensures b in-b) (c.row_of-4.ensures b in-b) (c.row_of-5.ensures b in-b)
    (c.row_of-6.ensures b in-b) (c.row_of-7.ensures b in-b) (c.row_of-8.ensures b in-b) i in-i
