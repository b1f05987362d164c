use Rattle.cube_core.proofs.Putting.{two_wide}
use Rattle.std.proofs.Common.{refl}
use Rattle.cube_core.proofs.piece.write_piece.Goals as goal

pub write_numbers-requires-else-layout-clause-form : goal.write_numbers-requires-else-layout-clause-form
write_numbers-requires-else-layout-clause-form c = two_wide _ _ refl c.requires.layout c.if-layout-eq1.false
