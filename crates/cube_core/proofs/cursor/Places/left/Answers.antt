use Rattle.std.proofs.Common.{sym, ◌∙◌, ap, length}
use Rattle.cube_core.proofs.Walks.{length-places_left}
use Rattle.cube_core.proofs.cursor.Places.left.Goals as goal

pub returns : goal.returns
returns c = sym (ap length (sym c.self.view_is) ∙ length-places_left _ _ _ c.self.invariant.lawful c.self.invariant.few)
