use Rattle.std.proofs.Common.{arith}
use Rattle.file_encoding.proofs.RowPieces.{pieces_next, pieces_past, past_at}
use Rattle.coder_tests.proofs.band_groups.go.Goals as goal

pub predict_group-requires-clause-next : goal.predict_group-requires-clause-next
predict_group-requires-clause-next g c =
    let place = c.requires.place in let piece = c.requires.piece in
    pieces_next _ _ _ _ _ _ c.requires.image place.0 place.1 piece.0 piece.1 c.requires.at

pub returns : goal.returns
returns g c = past_at _ _ _ _ _ _ (pieces_past _ _ _ _ _ _ c.requires.at c.predict_group.ensures.held) (omega arith)
