use Rattle.cube_core.proofs.Parts.{pixel_piece}
use Rattle.cube_core.proofs.part.Piece.pixels.Goals as goal

pub returns-clause-piece : goal.returns-clause-piece
returns-clause-piece c = rw (c.bands-bands.ensures.value, c.rows.ensures.value, c.columns.ensures.value) (pixel_piece _ _ _ _ _ _ c.requires.part c.requires.band
    c.requires.pixels)
