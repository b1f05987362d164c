use Rattle.std.proofs.Common.{◌≡◌, ◌+◌, ◌∙◌, ◌∷◌, [], get_or, ap, arith}
use Rattle.lanes.proofs.Steps.{eight}
use Rattle.lanes.specs.Squares.{at}
use Rattle.file_encoding.specs.Pieces.{held_at}
use Rattle.file_encoding.proofs.GatheredSquares.{held_there}
use Rattle.file_encoding.proofs.gather.gather_square.Goals as goal

pub returns-clause-here : goal.returns-clause-here
returns-clause-here c i k in-i in-k =
    let bands = c.args.bands.now in let b = c.args.b in let place = c.args.first + i in
    let first : b ≡ b + 0 = omega arith in
    let each = eight (λ k. at (c.places_of.result ∷ c.places_of-2.result ∷ c.places_of-3.result ∷ c.places_of-4.result ∷ c.places_of-5.result ∷ c.places_of-6.result ∷ c.places_of-7.result ∷ c.places_of-8.result ∷ []) k i ≡ get_or (held_at bands place) (b + k) 0)
    (c.places_of.ensures i in-i ∙ held_there bands c.index-bands-b.result b place (omega arith) c.index-bands-b.is ∙ ap (λ n. get_or (held_at bands place) n 0) first)
    (c.places_of-2.ensures i in-i ∙ held_there bands c.index-bands-b-2.result (b + 1) place (omega arith) c.index-bands-b-2.is)
    (c.places_of-3.ensures i in-i ∙ held_there bands c.index-bands-b-3.result (b + 2) place (omega arith) c.index-bands-b-3.is)
    (c.places_of-4.ensures i in-i ∙ held_there bands c.index-bands-b-4.result (b + 3) place (omega arith) c.index-bands-b-4.is)
    (c.places_of-5.ensures i in-i ∙ held_there bands c.index-bands-b-5.result (b + 4) place (omega arith) c.index-bands-b-5.is)
    (c.places_of-6.ensures i in-i ∙ held_there bands c.index-bands-b-6.result (b + 5) place (omega arith) c.index-bands-b-6.is)
    (c.places_of-7.ensures i in-i ∙ held_there bands c.index-bands-b-7.result (b + 6) place (omega arith) c.index-bands-b-7.is)
    (c.places_of-8.ensures i in-i ∙ held_there bands c.index-bands-b-8.result (b + 7) place (omega arith) c.index-bands-b-8.is) in
    c.put_square.ensures.here i k in-i in-k ∙ c.turned.ensures i k in-i in-k ∙ each k in-k
