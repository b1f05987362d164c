use Rattle.cube_core.proofs.piece.read_piece.Goals as goal

pub read_numbers-requires-then-layout-clause-end : goal.read_numbers-requires-then-layout-clause-end
read_numbers-requires-then-layout-clause-end c = λ two. c.if-layout.true
