use Rattle.std.proofs.Common.{◌+◌, ◌*◌, ◌-◌, take, drop, arith}
use Rattle.header_bits.proofs.Items.{all_take}
use Rattle.file_encoding.specs.Walks.{IsAt, AreAt}
use Rattle.file_encoding.proofs.Sending.{parted_put}
use Rattle.file_encoding.proofs.RowPieces.{pieces_next, pieces_past, same_bands}
use Rattle.file_encoding.proofs.pieces.predict_pieces.Goals as goal
use Rattle.file_encoding.proofs.pieces.predict_pieces.Goals.{After-min-last}

next : (c : After-min-last) → AreAt c.args.params.now c.args.rows.now.image (c.args.rows.now.y * c.args.rows.now.image.shape.columns + c.args.x)
    (take (c.min-last.result - c.loop-first.first) (drop c.loop-first.first c.loop-first.bands))
next c = all_take (IsAt c.args.params.now c.args.rows.now.image _) _ _ c.loop-first.invariant.left

pub predict_group-requires-clause-next : goal.predict_group-requires-clause-next
predict_group-requires-clause-next c =
    let place = c.requires.place in let piece = c.requires.piece in
    pieces_next _ _ _ _ _ _ c.requires.image place.0 place.1 piece.0 piece.1 (next (goal.at.predict_group-requires-clause-next c).After-min-last)

pub loop-first-preserved : goal.loop-first-preserved
loop-first-preserved c =
    let told = c.predict_group.ensures.held in
    let past = pieces_past _ _ _ _ _ _ (next (goal.at.loop-first-preserved c).After-min-last) told in
    parted_put (c.min-last.result - c.loop-first.first) c.min-last.result _ c.loop-first.invariant (omega arith) (omega arith) past
    (same_bands c.args.rows.now.image c.args.count _ _ told)
