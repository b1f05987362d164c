use Rattle.cube_core.proofs.Parts.{sequential_piece}
use Rattle.cube_core.proofs.part.Piece.sequential.Goals as goal

pub returns-clause-piece : goal.returns-clause-piece
returns-clause-piece c = sequential_piece _ _ _ c.requires.part
