use Rattle.std.proofs.Common.{arith}
use Rattle.cube_core.proofs.Parts.{line_piece}
use Rattle.cube_core.proofs.part.Piece.line.Goals as goal

pub returns-clause-piece : goal.returns-clause-piece
returns-clause-piece c = rw c.columns-columns.ensures.value (line_piece _ _ _ _ _ _ _ c.requires.part c.requires.band c.requires.line.0 c.requires.line.1
    c.index_at.ensures.value (omega (arith, c.index_at.ensures.value, c.index_at.ensures.row)))
